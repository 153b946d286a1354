-- Each worker, kind and id has a word of its own.
use Rattle.std.proofs.Common.{ℕ, ◌≤◌, refl, arith}
use Rattle.store_model.specs.declared.metric.MetricKind.{MetricKind}
use Rattle.store_model.specs.declared.metric.MetricKind.TheVariants.{Counter, Gauge}
use Rattle.metric_table.specs.Laws.{IsOnlyPlace}

pub only_place : (who other : ℕ) (kind another : MetricKind) (id further : ℕ) → (1 ≤ who) × (who ≤ 8) → (1 ≤ other) × (other ≤ 8) → (1 ≤ id) × (id ≤ 64) → (1 ≤ further) × (further ≤ 64)
    → IsOnlyPlace who other kind another id further
only_place who other Counter Counter id further (a, b) (c, d) (e, f) (g, h) = record { within = omega arith; who_is = λ is. omega arith; kind_is = λ is. refl; id_is = λ is. omega arith }
only_place who other Counter Gauge id further (a, b) (c, d) (e, f) (g, h) = record { within = omega arith; who_is = λ is. absurd (omega arith); kind_is = λ is. absurd (omega arith); id_is = λ is. absurd (omega arith) }
only_place who other Gauge Counter id further (a, b) (c, d) (e, f) (g, h) = record { within = omega arith; who_is = λ is. absurd (omega arith); kind_is = λ is. absurd (omega arith); id_is = λ is. absurd (omega arith) }
only_place who other Gauge Gauge id further (a, b) (c, d) (e, f) (g, h) = record { within = omega arith; who_is = λ is. omega arith; kind_is = λ is. refl; id_is = λ is. omega arith }
