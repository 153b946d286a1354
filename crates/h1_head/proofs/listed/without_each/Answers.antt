use Rattle.std.proofs.Common.{◌≡◌, ◌∷◌, ◌+◌, ◌<◌, List, ℕ, length, drop, slice_index_or, sym, ap, ◌∙◌, arith}
use Rattle.std.proofs.lemmas.List.{drop_more, drop_all}
use Rattle.h1_model.specs.Fields.{fields_not_listed}
use Rattle.h1_head.proofs.Unlisted.{unlisted-cons, unlisted-nil}
use Rattle.h1_head.proofs.listed.without_each.Goals as goal

pub loop-value-preserved : goal.loop-value-preserved
loop-value-preserved c =
    let connection : List (List ℕ) = c.args.connection.now in
    let i = c.loop-value.value-index in
    let behind : List (List ℕ) = drop (i + 1) connection in
    let old = c.loop-value.fields.pairs in
    let value : List ℕ = c.as_slice.result.now in
    let item : List ℕ = c.value-item.result in
    let all : c.as_slice-value-items.result.now ≡ connection = c.as_slice-value-items.ensures in
    let lt : i < length connection = omega (arith, ap length all, c.loop-value-test.true) in
    let value_is : value ≡ slice_index_or connection i item =
    c.as_slice.ensures ∙ c.value-item.is ∙ ap (λ (vs : List (List ℕ)). slice_index_or vs i item) all in
    let here : drop i connection ≡ value ∷ behind =
    drop_more connection i item lt ∙ ap (λ (v : List ℕ). v ∷ behind) (sym value_is) in
    record {
      left = ap (fields_not_listed behind) c.without_members-fields.ensures.left ∙ unlisted-cons value behind old
          ∙ ap (λ (vs : List (List ℕ)). fields_not_listed vs old) (sym here) ∙ c.loop-value.invariant.left;
      kept = c.without_members-fields.ensures.fields;
    }

pub returns : goal.returns
returns c =
    let connection : List (List ℕ) = c.args.connection.now in
    let all : c.as_slice-value-items.result.now ≡ connection = c.as_slice-value-items.ensures in
    let none = drop_all c.loop-value.value-index connection (omega (arith, ap length all, c.loop-value-test.false)) in
    sym (unlisted-nil c.loop-value.fields.pairs) ∙ ap (λ (vs : List (List ℕ)). fields_not_listed vs c.loop-value.fields.pairs) (sym none)
    ∙ c.loop-value.invariant.left
