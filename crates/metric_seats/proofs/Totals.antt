-- A total, word by word.
use Rattle.std.proofs.Common.{◌≡◌, ℕ, zero, suc, ◌+◌, ◌%◌, ◌^◌, List, [], ◌∷◌, ◌++◌, map, sum, get_or, refl, ap, sym, ◌∙◌, arith}
use Rattle.std.proofs.lemmas.List.Sums.{fold-append}
use mathlib.Core.List.{map-append}
use Rattle.metric_table.specs.Places.{place_of}
use Rattle.store_model.specs.declared.metric.MetricKind.{MetricKind}

-- the numbers from 1 up to this one
abbrev pub up_to : ℕ → List ℕ
up_to zero = []
up_to (suc n) = up_to n ++ suc n ∷ []

-- the sum of the words of the workers up to a number
abbrev pub summed_to : List ℕ → MetricKind → ℕ → ℕ → ℕ
summed_to words kind id n = sum (map (λ who. get_or words (place_of who kind id) 0) (up_to n))

pub summed_more : (words : List ℕ) (kind : MetricKind) (id n : ℕ) → summed_to words kind id (suc n) ≡ summed_to words kind id n + get_or words (place_of (suc n) kind id) 0
summed_more words kind id n =
    let f : ℕ → ℕ = λ who. get_or words (place_of who kind id) 0 in
    ap sum (map-append f (up_to n) (suc n ∷ [])) ∙ fold-append _ 0 (map f (up_to n)) (f (suc n) ∷ [])
