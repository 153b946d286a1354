use Rattle.std.proofs.Common.{◌≡◌, ◌∷◌, [], ◌++◌, ◌+◌, ◌<◌, List, ℕ, length, take, slice_index_or, sym, ap, ◌∙◌, subst, arith}
use Rattle.std.proofs.lemmas.List.{take_more}
use Rattle.h1_text.specs.Names.{AreMarked}
use Rattle.h1_head.proofs.listed.note_values.Goals as goal

pub loop-value-preserved : goal.loop-value-preserved
loop-value-preserved c =
    let connection : List (List ℕ) = c.args.connection.now in
    let i = c.loop-value.value-index in
    let value : List ℕ = c.as_slice.result.now in
    let item : List ℕ = c.value-item.result in
    let all : c.as_slice-value-items.result.now ≡ connection = c.as_slice-value-items.ensures in
    let lt : i < length connection = omega (arith, ap length all, c.loop-value-test.true) in
    let value_is : value ≡ slice_index_or connection i item =
    c.as_slice.ensures ∙ c.value-item.is ∙ ap (λ (vs : List (List ℕ)). slice_index_or vs i item) all in
    let here : take i connection ++ value ∷ [] ≡ take (i + 1) connection =
    ap (λ (v : List ℕ). take i connection ++ v ∷ []) value_is ∙ sym (take_more connection i item lt) in
    λ none. subst (λ (vs : List (List ℕ)). AreMarked vs c.note.new.self) here (c.note.ensures.marks (take i connection) (c.loop-value.invariant none))
