use Rattle.std.proofs.Common.{◌≡◌, length}
use Rattle.shared_seats.specs.Places.{MetricsAreNumbered, first_places}
use Rattle.shared_seats.proofs.metrics.MetricTables.new.Given as goal

-- those so far, and worker 1's places at them
abbrev pub invariant-loop-n : goal.invariant-loop-n
invariant-loop-n l = (length l.tables.items ≡ l.n) × MetricsAreNumbered l.tables.items × (l.places.items ≡ first_places l.tables.items)
