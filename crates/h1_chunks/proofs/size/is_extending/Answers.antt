use Rattle.std.proofs.Common.{ℕ, sym, ap, ◌∙◌, drop, arith}
use Rattle.std.proofs.lemmas.Bool.Decides.{nat_tests}
use Rattle.std.proofs.lemmas.List.{take_rest}
use Rattle.httparse.specs.Grammar.{skip_ows}
use Rattle.h1_chunks.proofs.Extensions.{extending}
use Rattle.h1_chunks.proofs.size.is_extending.Goals as goal

pub returns-in-Some : goal.returns-in-Some
returns-in-Some c =
    let line = c.args.line.now in
    let rest = rw (take_rest {X = ℕ}) at c.skip_blanks.ensures in
    let is = rest ∙ ap (λ k. skip_ows (drop k line)) c.digit_count.ensures.count in
    λ all. extending line c.skip_blanks.result.now is (grind (arith, nat_tests, c.if-is_empty.ensures)) (sym c.size_told.ensures ∙ c.in-Some.is) (sym c.has_no_end.ensures ∙ all)
