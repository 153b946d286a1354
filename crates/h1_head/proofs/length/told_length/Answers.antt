use Rattle.std.proofs.Common.{◌≡◌, ◌∷◌, ◌+◌, drop, ap, sym, ◌∙◌, [], List, true}
use Rattle.std.proofs.lemmas.List.{drop_all}
use Rattle.std.specs.Prelude.{codes}
use Rattle.httparse.specs.declared.spans.HeaderSpan.{HeaderSpan}
use Rattle.std.specs.List.{flat_map}
use Rattle.h1_model.specs.Fields.{Pair, members, values_of, is_named}
use Rattle.h1_model.proofs.FieldLemmas.{values_of-other}
use Rattle.h1_text.specs.Spans.{fields_at}
use Rattle.h1_head.proofs.Lists.{fields_at-more}
use Rattle.h1_head.proofs.Measured.{told-line, values_of-some, some_line, told-next, told-none, told-end, agreed-first}
use Rattle.h1_head.proofs.length.told_length.Goals.{then-is_same_word+else-is_none, else-is_same_word}
use Rattle.h1_head.proofs.length.told_length.Goals as goal

pub returns-then-is_none : goal.returns-then-is_none
returns-then-is_none c =
    let name = codes "content-length" in
    let i = c.loop-span.span-index in
    let rest = fields_at c.args.fields.now.text.now (drop i c.args.fields.now.spans.now) in
    let fs = fields_at c.args.fields.now.text.now (drop (i + 1) c.args.fields.now.spans.now) in
    let f : Pair = (c.pair_at.result.0.now, c.pair_at.result.1.now) in
    let here : rest ≡ f ∷ fs = fields_at-more c.args.fields.now.text.now c.args.fields.now.spans.now i _ c.loop-span-test.true ∙ ap (λ (p : Pair). p ∷ fs) (sym c.pair_at.ensures.pair) in
    let named : is_named name f ≡ true = sym c.if-is_same_word.ensures in
    let line = told-line name f fs rest c.loop-span.told c.agreed-told.result here named c.agreed-told.ensures in
    record {
      some = some_line c.loop-span.told (values_of name rest) _ c.loop-span.invariant.none c.loop-span.invariant.some (values_of-some name f fs rest here named);
      one = sym (agreed-first (flat_map members (values_of name (fields_at c.args.fields.now.text.now c.args.fields.now.spans.now)))) ∙ told-none c.agreed-told.result (values_of name fs) _ c.if-is_none.ensures (sym line ∙ c.loop-span.invariant.agrees);
    }

pub loop-span-preserved : goal.loop-span-preserved
loop-span-preserved c =
    let name = codes "content-length" in
    let i = c.loop-span.span-index in
    let rest = fields_at c.args.fields.now.text.now (drop i c.args.fields.now.spans.now) in
    let fs = fields_at c.args.fields.now.text.now (drop (i + 1) c.args.fields.now.spans.now) in
    let f : Pair = (c.pair_at.result.0.now, c.pair_at.result.1.now) in
    let here : rest ≡ f ∷ fs = fields_at-more c.args.fields.now.text.now c.args.fields.now.spans.now i _ c.loop-span-test.true ∙ ap (λ (p : Pair). p ∷ fs) (sym c.pair_at.ensures.pair) in
    elim c.if-is_same_word.branch [
      | then-is_same_word+else-is_none w ↦
          let named : is_named name f ≡ true = sym w.if-is_same_word.ensures in
          let line = told-line name f fs rest c.loop-span.told w.agreed-told.result here named w.agreed-told.ensures in
          let some = some_line c.loop-span.told (values_of name rest) _ c.loop-span.invariant.none c.loop-span.invariant.some (values_of-some name f fs rest here named) in
          let next = told-next w.agreed-told.result (values_of name fs) _ _ w.if-is_none.ensures (sym line ∙ c.loop-span.invariant.agrees) some in
          rw w.told-is (record { agrees = next.0; none = next.1; some = next.2 })
      | else-is_same_word w ↦
          let other : values_of name rest ≡ values_of name fs = ap (values_of name) here ∙ values_of-other name f fs (sym w.if-is_same_word.ensures) in
          rw (w.told-is, ← other) c.loop-span.invariant
    ]

pub returns-in-Some : goal.returns-in-Some
returns-in-Some c =
    let name = codes "content-length" in
    let rest = values_of name (fields_at c.args.fields.now.text.now (drop c.loop-span.span-index c.args.fields.now.spans.now)) in
    let none : rest ≡ [] = ap (λ (s : List HeaderSpan). values_of name (fields_at c.args.fields.now.text.now s)) (drop_all c.loop-span.span-index c.args.fields.now.spans.now c.loop-span-test.false) in
    let kept = rw c.in-Some.is at c.loop-span.invariant in
    told-end c.in-Some.n rest _ none kept.agrees kept.some
