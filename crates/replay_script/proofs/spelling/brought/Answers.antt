use Rattle.std.proofs.Common.{decimal, subst, sym, ◌∙◌, List, ℕ}
use Rattle.hex.specs.Hex.{encode_lower}
use Rattle.replay_script.specs.Commands.{IsFree}
use Rattle.replay_script.proofs.Spaces.{decimal_is_free, line_fits, split_alone, has_no_such}
use Rattle.replay_script.proofs.spelling.brought.Goals as goal

pub returns-in_default-clause-only : goal.returns-in_default-clause-only
returns-in_default-clause-only c = λ n bytes line piece e.
    absurd (has_no_such 32 (decimal n) (encode_lower bytes) (subst (λ (w : List ℕ). IsFree 32 w) e c.in_default.ensures))

pub returns-in_default-line_of-clause-only : goal.returns-in_default-line_of-clause-only
returns-in_default-line_of-clause-only c = λ n bytes line piece e.
    let parts = split_alone 32 c.in-Some.number.now (decimal n) c.in-Some.digits.now (encode_lower bytes) c.in-Some.ensures.0 (decimal_is_free n (line_fits n line)) (sym c.in-Some.ensures.1 ∙ e) in
    cc (c.in_default-line_of.ensures.only n line parts.0)

pub returns-in-Some-2-clause-only : goal.returns-in-Some-2-clause-only
returns-in-Some-2-clause-only c = λ n bytes line piece e.
    let parts = split_alone 32 c.in-Some.number.now (decimal n) c.in-Some.digits.now (encode_lower bytes) c.in-Some.ensures.0 (decimal_is_free n (line_fits n line)) (sym c.in-Some.ensures.1 ∙ e) in
    cc (c.in-Some-line_of.ensures.only n line parts.0, c.in_ok-bytes.ensures.only bytes piece parts.1, c.in-Some-2.is)

pub returns-in-None-clause-only : goal.returns-in-None-clause-only
returns-in-None-clause-only c = λ n bytes line piece e.
    let parts = split_alone 32 c.in-Some.number.now (decimal n) c.in-Some.digits.now (encode_lower bytes) c.in-Some.ensures.0 (decimal_is_free n (line_fits n line)) (sym c.in-Some.ensures.1 ∙ e) in
    cc (c.in_ok-bytes.ensures.only bytes piece parts.1, c.in-None.is)
