use Rattle.std.proofs.Common.{◌∙◌, [], false, sym, ap, ⊎_elim}
use Rattle.std.specs.Prelude.{slice_index_or}
use Rattle.std.proofs.lemmas.Bool.{false≢true}
use Rattle.http_header.specs.Token.{lowercase}
use Rattle.h1_text.proofs.Unmarked.{last}
use Rattle.h1_text.proofs.names.ListedNames.wanted.Goals.{then-not-mark_of, else-not-mark_of}
use Rattle.h1_text.proofs.names.ListedNames.wanted.Goals as goal

pub loop-number-preserved : goal.loop-number-preserved
loop-number-preserved c =
    let before = c.loop-number.invariant in
    let number = c.loop-number.number in
    let names = c.args.self.now.tree.names in
    let marks = c.args.self.now.marks.items in
    elim c.if-not-mark_of.branch [
      | then-not-mark_of w ↦
          rw w.wanted-is (record {
            blanks = w.add.ensures.blanks before.blanks;
            unmarked = λ k low none.
                ⊎_elim (λ less. w.add.ensures.kept (slice_index_or names k []) (before.unmarked k less none))
                (λ same m is. w.add.ensures.added m (is ∙ ap (λ n. lowercase (slice_index_or names n [])) same ∙ sym (ap lowercase w.name.ensures)))
                (last k number low);
          })
      | else-not-mark_of w ↦
          rw w.wanted-is (record {
            blanks = before.blanks;
            unmarked = λ k low none.
                ⊎_elim (λ less. before.unmarked k less none)
                (λ same. absurd (false≢true (sym none ∙ ap (λ n. slice_index_or marks n false) same ∙ sym w.if-not-mark_of.ensures)))
                (last k number low);
          })
    ]
