-- Places beside seats.
use Rattle.std.specs.Global.{Vec}
use Rattle.std.specs.Prelude.{◌≡◌, ℕ, suc, ◌+◌, List, map, length}
use mathlib.Core.Option.{some}
use lib.ListN.{get_elem?}
use Rattle.turn_table.specs.Seats.{Seated}
use Rattle.metric_seats.specs.Places.{MetricTableId}
use Rattle.shared_seats.specs.Places.{new_place}
use Rattle.shared_seats.specs.Seats.{SeatsOf}

-- seats at the stores, and places at new metrics
abbrev pub beside : List Seated → ℕ → ℕ → List MetricTableId → SeatsOf
beside seats who given tables = record { stores = seats; metrics = map (new_place who given) tables }

-- each worker's places at new metrics stand beside its seats at the stores
pub record AreBeside (tables : List MetricTableId) (seats : List (Vec Seated)) (lists : List SeatsOf) : Type 0 where
  pub as_many : length lists ≡ length seats
  pub first : (l : SeatsOf) (s : Vec Seated) → get_elem? lists 0 ≡ some l → get_elem? seats 0 ≡ some s → l ≡ beside s.items 1 (length seats) tables
  pub others : (w : ℕ) (l : SeatsOf) (s : Vec Seated) → get_elem? lists (suc w) ≡ some l → get_elem? seats (suc w) ≡ some s → l ≡ beside s.items (w + 2) 0 tables
