-- The metrics of all VM names, and workers' places at them.
use Rattle.std.specs.Prelude.{◌≡◌, ℕ, ◌+◌, ◌<◌, List, [], map, length}
use mathlib.Core.Option.{some}
use lib.ListN.{get_elem?}
use Rattle.store_model.specs.History.{own}
use Rattle.store_model.specs.MetricNames.{names_acts}
use Rattle.turn_table.specs.Seats.{Closed}
use Rattle.metric_table.specs.Seats.{Shut}
use Rattle.metric_table.specs.Views.{no_words}
use Rattle.metric_seats.specs.Places.{Metered, MetricTableId, PlacesJoined, first_place, next_place, tables_of}
use Rattle.metric_seats.specs.declared.table.MetricsClosed.{MetricsClosed}
use Rattle.shared_store.specs.Workers.{new_seat}

-- the metrics of VM number k are the k-th
abbrev pub MetricsAreNumbered : List MetricTableId → Type 0
MetricsAreNumbered tables = (k : ℕ) (t : MetricTableId) → get_elem? tables k ≡ some t → t.names.vm ≡ k

-- one place at each of these tables, in their order
abbrev pub ArePlaces : List MetricTableId → List Metered → Type 0
ArePlaces tables places = map tables_of places ≡ tables

-- worker 1's places at new tables
abbrev pub first_places : List MetricTableId → List Metered
first_places tables = map first_place tables

-- a place after it gave out a number
abbrev pub after_giving : Metered → Metered
after_giving v = record { names = record v.names { given = v.names.given + 1 }; words = record v.words { given = v.words.given + 1 } }

-- worker 1's places after each gave out a number, and the places of that number
abbrev pub after_split : List Metered → List Metered
after_split places = map after_giving places

abbrev pub next_places : List Metered → List Metered
next_places places = map next_place places

-- a place of worker 1 that may give out the next number, which has asked nothing
pub record MayGive (v : Metered) : Type 0 where
  pub first : v.names.number ≡ 1
  pub room : v.names.given < 8
  pub none : own (v.names.given + 1) v.names.seen ≡ []

-- at each table the place of the second list was joined into that of the first
pub record AllJoined (old ended new : List Metered) : Type 0 where
  pub as_many : length new ≡ length old
  pub each : (vm : ℕ) (v u w : Metered) → get_elem? old vm ≡ some v → get_elem? ended vm ≡ some u → get_elem? new vm ≡ some w → PlacesJoined v u w

-- the tables of a VM name's metrics were closed with this place
pub record PlaceClosed (v : Metered) (c : MetricsClosed) : Type 0 where
  pub names : Closed names_acts v.names c.names c.definitions
  pub words : Shut v.words c.totals

-- each table was closed with its place
pub record AllClosed (places : List Metered) (closed : List MetricsClosed) : Type 0 where
  pub as_many : length closed ≡ length places
  pub each : (vm : ℕ) (v : Metered) (c : MetricsClosed) → get_elem? places vm ≡ some v → get_elem? closed vm ≡ some c → PlaceClosed v c

-- a worker's place at new tables; worker 1's has given out the numbers up to one
abbrev pub new_place : ℕ → ℕ → MetricTableId → Metered
new_place who given t = record { names = new_seat who given t.names; words = record { table = t.words; number = who; own = no_words; looks = []; given = given; ended = [] } }
