-- The seats of all workers, a list of them for each worker, and what their tables come to.
use Rattle.std.specs.Prelude.{◌≡◌, ℕ, suc, ◌+◌, ◌*◌, ◌%◌, ◌^◌, ◌<◌, ◌≤◌, All, List, [], map, length, slice_index}
use mathlib.Core.List.{IsPrefix}
use mathlib.Core.Option.{some}
use lib.ListN.{get_elem?}
use Rattle.store_model.specs.History.{own, store_after, IsLegal}
use Rattle.store_model.specs.Made.{Made}
use Rattle.store_model.specs.MetricNames.{names_acts}
use Rattle.store_model.specs.declared.entry.Entry.{Entry}
use Rattle.turn_table.specs.Histories.{value_after, IsLegalFor}
use Rattle.turn_table.specs.Seats.{Seated}
use Rattle.metric_table.specs.Rule.{IsRow}
use Rattle.metric_seats.specs.Places.{Metered}
use Rattle.metric_seats.specs.declared.table.MetricsClosed.{MetricsClosed}
use Rattle.shared_store.specs.declared.closed.ClosedStore.{ClosedStore}
use Rattle.shared_store.specs.Tables as store
use Rattle.shared_store.specs.Workers.{new_seat}
use Rattle.shared_seats.specs.Closed.{ClosedOf}
use Rattle.shared_seats.specs.Moving.{SeatsGoOn}
use Rattle.shared_seats.specs.Places as places
use Rattle.shared_seats.specs.Seats.{AreAt, SeatsOf, TablesOf}

-- the tables of VM number k are the k-th
pub record AreNumbered (tables : TablesOf) : Type 0 where
  pub stores : store.AreNumbered tables.stores
  pub metrics : places.MetricsAreNumbered tables.metrics

-- a worker's seats at new tables; worker 1's have given out the numbers up to one
abbrev pub new_seats : ℕ → ℕ → TablesOf → SeatsOf
new_seats who given tables = record { stores = map (new_seat who given) tables.stores; metrics = map (places.new_place who given) tables.metrics }

-- Lists of seats at new tables: worker 1's, which gave out the numbers of the others, and those of the others in order.
pub record AreNew (tables : TablesOf) (workers : ℕ) (lists : List SeatsOf) : Type 0 where
  pub as_many : length lists ≡ workers
  pub first : (l : SeatsOf) → get_elem? lists 0 ≡ some l → l ≡ new_seats 1 workers tables
  pub others : (w : ℕ) (l : SeatsOf) → get_elem? lists (suc w) ≡ some l → l ≡ new_seats (w + 2) 0 tables

-- the seats and places of one worker
pub record AreOf (who : ℕ) (seats : SeatsOf) : Type 0 where
  pub stores : store.AreOf who seats.stores
  pub metrics : (vm : ℕ) (v : Metered) → get_elem? seats.metrics vm ≡ some v → (v.names.number ≡ who) × (v.words.number ≡ who)

-- worker 1's seats and places, each of which gave out so many numbers, and none came back
pub record HaveGiven (given : ℕ) (seats : SeatsOf) : Type 0 where
  pub stores : (vm : ℕ) (v : Seated) → get_elem? seats.stores vm ≡ some v → (v.given ≡ given) × (v.ended ≡ [])
  pub names : (vm : ℕ) (v : Metered) → get_elem? seats.metrics vm ≡ some v → (v.names.given ≡ given) × (v.names.ended ≡ [])
  pub words : (vm : ℕ) (v : Metered) → get_elem? seats.metrics vm ≡ some v → (v.words.given ≡ given) × (v.words.ended ≡ [])

-- All seats of the tables: the lists of workers 1 and up, in order. Worker 1's seats gave out as many numbers, and none came back.
pub record AreAll (tables : TablesOf) (lists : List SeatsOf) : Type 0 where
  pub not_empty : 0 < length lists
  pub each : (w : ℕ) (l : SeatsOf) → get_elem? lists w ≡ some l → AreAt tables l × AreOf (w + 1) l
  pub gave : (l : SeatsOf) → get_elem? lists 0 ≡ some l → HaveGiven (length lists) l

-- seats went on by some calls and asks
pub record WentOn (old new : SeatsOf) : Type 0 where
  pub calls : List Made
  pub goes : SeatsGoOn old calls new

-- each worker's seats went on by some calls and asks
pub record ListsGoOn (old new : List SeatsOf) : Type 0 where
  pub as_many : length new ≡ length old
  pub each : (w : ℕ) (l m : SeatsOf) → get_elem? old w ≡ some l → get_elem? new w ≡ some m → WentOn l m

-- The one history of a VM's store: it is legal and leaves the store, its length is the number of calls, each worker's seat has seen a beginning of it in which all entries of that worker stand, and it has no others.
pub record HasOneHistory (vm : ℕ) (lists : List SeatsOf) (closed : ClosedStore) : Type 0 where
  pub history : List Entry
  pub legal : IsLegal vm history
  pub store_is : closed.store ≡ store_after vm history
  pub calls_is : closed.calls ≡ length history % 2 ^ 64
  pub seen : (w : ℕ) (l : SeatsOf) (v : Seated) → get_elem? lists w ≡ some l → get_elem? l.stores vm ≡ some v → IsPrefix v.seen history × (own (w + 1) history ≡ own (w + 1) v.seen)
  pub no_others : All (λ e. (1 ≤ e.who) × (e.who ≤ length lists)) history

-- The metrics of a VM name at the end. Their names are what the one history of definitions leaves, of which each worker's place has seen a beginning with all entries of that worker, and which has no others. The words of each worker are the values that its place has, and all others are 0.
pub record HasMetrics (vm : ℕ) (lists : List SeatsOf) (closed : MetricsClosed) : Type 0 where
  pub history : List Entry
  pub legal : IsLegalFor names_acts vm history
  pub names_are : closed.names ≡ value_after names_acts vm history
  pub definitions_is : closed.definitions ≡ length history % 2 ^ 64
  pub seen : (w : ℕ) (l : SeatsOf) (v : Metered) → get_elem? lists w ≡ some l → get_elem? l.metrics vm ≡ some v → IsPrefix v.names.seen history × (own (w + 1) history ≡ own (w + 1) v.names.seen)
  pub no_others : All (λ e. (1 ≤ e.who) × (e.who ≤ length lists)) history
  pub words : (w : ℕ) (l : SeatsOf) (v : Metered) → get_elem? lists w ≡ some l → get_elem? l.metrics vm ≡ some v → IsRow closed.totals (w + 1) v.words.own
  pub no_other_words : (place : ℕ) → length lists * 128 ≤ place → slice_index closed.totals place ≡ 0

-- the tables were shut with all their seats
pub record AreShut (tables : TablesOf) (lists : List SeatsOf) (closed : ClosedOf) : Type 0 where
  pub as_many : length closed.stores ≡ length tables.stores
  pub as_many_metrics : length closed.metrics ≡ length tables.metrics
  pub each : (vm : ℕ) (c : ClosedStore) → get_elem? closed.stores vm ≡ some c → HasOneHistory vm lists c
  pub metrics : (vm : ℕ) (c : MetricsClosed) → get_elem? closed.metrics vm ≡ some c → HasMetrics vm lists c
