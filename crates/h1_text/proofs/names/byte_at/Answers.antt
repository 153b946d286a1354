use Rattle.std.proofs.Common.{◌%◌, ◌∙◌, sym, ap, arith}
use Rattle.std.proofs.lemmas.List.{get_or-map, get_or_past, length-map}
use Rattle.std.specs.Char.{to_ascii_lowercase}
use Rattle.http_header.specs.Token.{lowercase}
use Rattle.h1_text.proofs.names.byte_at.Goals as goal

pub returns-then-place-name-clause-value : goal.returns-then-place-name-clause-value
returns-then-place-name-clause-value c =
    ap (λ b. b % 128) (c.to_ascii_lowercase.ensures.value ∙ sym (get_or-map to_ascii_lowercase c.args.name.now c.args.place 0 0 c.if-place-name.true))

pub returns-else-place-name-clause-value : goal.returns-else-place-name-clause-value
returns-else-place-name-clause-value c =
    ap (λ b. b % 128) (sym (get_or_past (lowercase c.args.name.now) c.args.place 0 (omega (arith, length-map c.args.name.now to_ascii_lowercase, c.if-place-name.false))))
