-- The seats of all workers, a list of them for each worker, and what their tables come to.
use Rattle.std.specs.Prelude.{◌≡◌, ℕ, suc, ◌+◌, ◌%◌, ◌^◌, ◌<◌, ◌≤◌, All, List, [], map, length}
use Rattle.std.specs.Global.{Vec}
use mathlib.Core.List.{IsPrefix}
use mathlib.Core.Option.{some}
use lib.ListN.{get_elem?}
use Rattle.store_model.specs.History.{own, store_after, IsLegal}
use Rattle.store_model.specs.Made.{Made}
use Rattle.store_model.specs.declared.entry.Entry.{Entry}
use Rattle.turn_table.specs.Seats.{Seated, TurnTableId}
use Rattle.shared_store.specs.Moving.{SeatsGoOn}
use Rattle.shared_store.specs.Tables.{AreAt, AreOf}
use Rattle.shared_store.specs.declared.closed.ClosedStore.{ClosedStore}

-- a worker's seat at a new table; worker 1's has given out the numbers up to one
abbrev pub new_seat : ℕ → ℕ → TurnTableId → Seated
new_seat who given t = record { table = t; number = who; seen = []; given = given; ended = [] }

-- Lists of seats at new tables: worker 1's, which gave out the numbers of the others, and those of the others in order.
pub record AreNew (tables : List TurnTableId) (workers : ℕ) (lists : List (Vec Seated)) : Type 0 where
  pub as_many : length lists ≡ workers
  pub first : (l : Vec Seated) → get_elem? lists 0 ≡ some l → l.items ≡ map (new_seat 1 workers) tables
  pub others : (w : ℕ) (l : Vec Seated) → get_elem? lists (suc w) ≡ some l → l.items ≡ map (new_seat (w + 2) 0) tables

-- All seats of the tables: the lists of workers 1 and up, in order. Worker 1's seats gave out as many numbers, and none came back.
pub record AreAll (tables : List TurnTableId) (lists : List (Vec Seated)) : Type 0 where
  pub not_empty : 0 < length lists
  pub each : (w : ℕ) (l : Vec Seated) → get_elem? lists w ≡ some l → AreAt tables l.items × AreOf (w + 1) l.items
  pub gave : (l : Vec Seated) → get_elem? lists 0 ≡ some l → (vm : ℕ) (v : Seated) → get_elem? l.items vm ≡ some v → (v.given ≡ length lists) × (v.ended ≡ [])

-- seats went on by some calls
pub record WentOn (old new : List Seated) : Type 0 where
  pub calls : List Made
  pub goes : SeatsGoOn old calls new

-- each worker's seats went on by some calls
pub record ListsGoOn (old new : List (Vec Seated)) : Type 0 where
  pub as_many : length new ≡ length old
  pub each : (w : ℕ) (l m : Vec Seated) → get_elem? old w ≡ some l → get_elem? new w ≡ some m → WentOn l.items m.items

-- The one history of a VM's table: it is legal and leaves the store, its length is the number of calls, each worker's seat has seen a beginning of it in which all entries of that worker stand, and it has no others.
pub record HasOneHistory (vm : ℕ) (lists : List (Vec Seated)) (closed : ClosedStore) : Type 0 where
  pub history : List Entry
  pub legal : IsLegal vm history
  pub store_is : closed.store ≡ store_after vm history
  pub calls_is : closed.calls ≡ length history % 2 ^ 64
  pub seen : (w : ℕ) (l : Vec Seated) (v : Seated) → get_elem? lists w ≡ some l → get_elem? l.items vm ≡ some v → IsPrefix v.seen history × (own (w + 1) history ≡ own (w + 1) v.seen)
  pub no_others : All (λ e. (1 ≤ e.who) × (e.who ≤ length lists)) history

-- the tables were shut with all their seats
pub record AreShut (tables : List TurnTableId) (lists : List (Vec Seated)) (stores : List ClosedStore) : Type 0 where
  pub as_many : length stores ≡ length tables
  pub each : (vm : ℕ) (c : ClosedStore) → get_elem? stores vm ≡ some c → HasOneHistory vm lists c
