-- From the steps that a call made to what its contract says.
use Rattle.std.proofs.Common.{◌≡◌, ℕ, ◌+◌, ◌%◌, ◌<◌, ◌≤◌, arith, refl}
use Rattle.store_model.specs.declared.metric.MetricKind.{MetricKind}
use Rattle.store_model.specs.declared.metric.MetricKind.TheVariants.{Counter, Gauge}
use Rattle.metric_table.specs.Places.{IsOfCounter, column_of, place_of, row_of}

-- the column of a place
pub column_is : (who : ℕ) (kind : MetricKind) (id : ℕ) → 1 ≤ id → id ≤ 64 → place_of who kind id % 128 ≡ column_of kind id
column_is who Counter id low high = omega arith
column_is who Gauge id low high = omega arith

pub in_row : (who : ℕ) (kind : MetricKind) (id : ℕ) → 1 ≤ id → id ≤ 64 → place_of who kind id ≡ row_of who + place_of who kind id % 128
in_row who kind id low high = let e = column_is who kind id low high in omega arith

pub column_small : (kind : MetricKind) (id : ℕ) → 1 ≤ id → id ≤ 64 → column_of kind id < 128
column_small Counter id low high = omega arith
column_small Gauge id low high = omega arith

-- the place of a counter is one of a counter, and no other
pub of_counter : (who : ℕ) (kind : MetricKind) (id : ℕ) → 1 ≤ id → id ≤ 64 → IsOfCounter (place_of who kind id) → kind ≡ Counter
of_counter who Counter id low high of = refl
of_counter who Gauge id low high of = absurd (omega arith)

pub is_counter : (who id : ℕ) → 1 ≤ id → id ≤ 64 → IsOfCounter (place_of who Counter id)
is_counter who id low high = omega arith

pub no_gauge : (who id : ℕ) → 1 ≤ id → id ≤ 64 → IsOfCounter (place_of who Gauge id) → ⊥
no_gauge who id low high of = absurd (omega arith)
