use Rattle.std.proofs.Common.{◌≡◌, ℕ, ◌+◌, ◌<◌, List, [], ◌∷◌, ◌++◌, length, take, sym, ap, ◌∙◌, subst, arith}
use Rattle.std.specs.Prelude.{codes}
use Rattle.std.proofs.lemmas.List.{take_more}
use Rattle.h1_model.specs.Fields.{Pair, values_of}
use Rattle.h1_text.proofs.Values.{values_named, values_other}
use Rattle.h1_text.specs.Names.{AreMarked}
use Rattle.h1_head.proofs.write.note_connection.Goals.{then-is_same_word, else-is_same_word}
use Rattle.h1_head.proofs.write.note_connection.Goals as goal

pub loop-at-preserved : goal.loop-at-preserved
loop-at-preserved c =
    let fields : List Pair = c.args.fields.now in
    let i = c.loop-at.at in
    let fs = take i fields in
    let f : Pair = (c.pair.result.0.now, c.pair.result.1.now) in
    let lt : i < length fields = omega (arith, c.len-at-end.ensures, c.loop-at-test.true) in
    let next : fs ++ f ∷ [] ≡ take (i + 1) fields = ap (λ (p : Pair). fs ++ p ∷ []) c.pair.ensures ∙ sym (take_more fields i f lt) in
    let here = ap (values_of (codes "connection")) next in
    λ none. elim c.if-is_same_word.branch [
      | then-is_same_word w ↦
          rw w.listed-is (subst (λ (vs : List (List ℕ)). AreMarked vs w.note.new.self) (values_named (codes "connection") fs f w.if-is_same_word.ensures ∙ here)
          (w.note.ensures.marks (values_of (codes "connection") fs) (c.loop-at.invariant none)))
      | else-is_same_word w ↦
          rw w.listed-is (subst (λ (vs : List (List ℕ)). AreMarked vs c.loop-at.listed) (values_other (codes "connection") fs f w.if-is_same_word.ensures ∙ here)
          (c.loop-at.invariant none))
    ]
