use Rattle.std.proofs.Common.{◌∷◌, ◌+◌, drop, ap, sym, ◌∙◌, List, inr}
use Rattle.std.proofs.lemmas.List.{drop_all}
use Rattle.httparse.specs.declared.spans.HeaderSpan.{HeaderSpan}
use Rattle.h1_model.specs.Fields.{Pair}
use Rattle.h1_text.specs.Spans.{fields_at}
use Rattle.h1_head.proofs.Lists.{fields_at-more}
use Rattle.h1_head.proofs.ListedLengths.{line_noted, line_passed, no_line_left}
use Rattle.h1_head.proofs.fields.Fields.listed_lengths.Goals.{then-is_same_word, else-is_same_word}
use Rattle.h1_head.proofs.fields.Fields.listed_lengths.Goals as goal

pub loop-span-init : goal.loop-span-init
loop-span-init c = λ name some. inr some

pub loop-span-preserved : goal.loop-span-preserved
loop-span-preserved c =
    let text = c.args.self.now.text.now in
    let i = c.loop-span.span-index in
    let fs = fields_at text (drop (i + 1) c.args.self.now.spans.now) in
    let f : Pair = (c.pair_at.result.0.now, c.pair_at.result.1.now) in
    let here = fields_at-more text c.args.self.now.spans.now i _ c.loop-span-test.true ∙ ap (λ (p : Pair). p ∷ fs) (sym c.pair_at.ensures.pair) in
    elim c.if-is_same_word.branch [
      | then-is_same_word w ↦
          λ name some. rw w.lengths-is (line_noted c.loop-span.lengths w.with_members-lengths.result name f fs _ here (sym w.if-is_same_word.ensures) w.with_members-lengths.ensures.wider (w.with_members-lengths.ensures.members name) (c.loop-span.invariant name some))
      | else-is_same_word w ↦
          λ name some. rw w.lengths-is (line_passed c.loop-span.lengths name f fs _ here (sym w.if-is_same_word.ensures) (c.loop-span.invariant name some))
    ]

pub returns : goal.returns
returns c =
    λ name some. no_line_left c.loop-span.lengths name _
    (ap (λ (s : List HeaderSpan). fields_at c.args.self.now.text.now s) (drop_all c.loop-span.span-index c.args.self.now.spans.now c.loop-span-test.false))
    (c.loop-span.invariant name some)
