use Rattle.std.proofs.Common.{ℕ, List, take, ap, ◌∙◌, subst}
use Rattle.std.specs.Prelude.{codes}
use Rattle.h1_model.specs.Fields.{Pair, values_of}
use Rattle.h1_text.specs.Spans.{fields_at}
use Rattle.h1_text.proofs.Values.{fields_at-next, values_named, values_other}
use Rattle.h1_text.specs.Names.{AreMarked}
use Rattle.h1_text.proofs.listed.note_listed.Goals.{then-is_same_word, else-is_same_word}
use Rattle.h1_text.proofs.listed.note_listed.Goals as goal

pub loop-span-preserved : goal.loop-span-preserved
loop-span-preserved c =
    let text = c.args.text.now in
    let spans = c.args.spans.now in
    let i = c.loop-span.span-index in
    let fs = fields_at text (take i spans) in
    let f : Pair = (c.pair_at.result.0.now, c.pair_at.result.1.now) in
    let here = ap (values_of (codes "connection")) (fields_at-next text spans i _ f c.loop-span-test.true c.pair_at.ensures) in
    λ none. elim c.if-is_same_word.branch [
      | then-is_same_word w ↦
          rw w.listed-is (subst (λ (vs : List (List ℕ)). AreMarked vs w.note.new.self) (values_named (codes "connection") fs f w.if-is_same_word.ensures ∙ here)
          (w.note.ensures.marks (values_of (codes "connection") fs) (c.loop-span.invariant none)))
      | else-is_same_word w ↦
          rw w.listed-is (subst (λ (vs : List (List ℕ)). AreMarked vs c.loop-span.listed) (values_other (codes "connection") fs f w.if-is_same_word.ensures ∙ here)
          (c.loop-span.invariant none))
    ]
