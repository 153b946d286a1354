-- Stores at the start.
use Rattle.std.specs.Prelude.{◌≡◌, ℕ, zero, suc, ◌+◌, List, [], ◌∷◌, ◌++◌}
use Rattle.std.proofs.Common.{ap, add-one}
use Rattle.store_model.specs.Store.{Store, empty_store}
use Rattle.store_model.specs.declared.metric.Metric.{Metric}

-- the empty stores of the numbers below n
abbrev pub fresh_stores : ℕ → List Store
fresh_stores zero = []
fresh_stores (suc n) = fresh_stores n ++ empty_store n ∷ []

-- no metrics for the numbers below n
abbrev pub fresh_metrics : ℕ → List (List Metric)
fresh_metrics zero = []
fresh_metrics (suc n) = fresh_metrics n ++ [] ∷ []

pub fresh_stores-more : (n : ℕ) → fresh_stores (n + 1) ≡ fresh_stores n ++ empty_store n ∷ []
fresh_stores-more n = ap fresh_stores (add-one n)

pub fresh_metrics-more : (n : ℕ) → fresh_metrics (n + 1) ≡ fresh_metrics n ++ [] ∷ []
fresh_metrics-more n = ap fresh_metrics (add-one n)

pub ruleset fresh_rules = (fresh_stores-more, fresh_metrics-more)
