use Rattle.std.proofs.Common.{◌≡◌, ◌+◌, ◌∙◌, false, true, subst, arith}
use Rattle.std.specs.Prelude.{slice_index, slice_index_or}
use Rattle.h1_text.proofs.Skips.{eight, in_range}
use Rattle.h1_text.proofs.wanted.Wanted.begins_none.Goals as goal

pub returns-then-list-at-gt-RUN : goal.returns-then-list-at-gt-RUN
returns-then-list-at-gt-RUN c =
    let firsts = c.args.self.now.firsts in
    let list = c.args.list.now in
    let at = c.args.at in
    λ is. (
      omega arith,
      λ k low.
          let none = eight (λ n. slice_index_or firsts (slice_index list (at + (1 + n))) false) is k low in
          let same : at + (1 + k) ≡ at + 1 + k = omega arith in
          subst (λ n. slice_index_or firsts (slice_index list n) true ≡ false) same
          (in_range firsts (slice_index list (at + (1 + k))) (omega (arith, c.requires.table.bytes, c.type_inv.list (at + (1 + k)))) ∙ none),
    )
