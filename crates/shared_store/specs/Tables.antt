-- The tables of all stores, and the seats at them.
use Rattle.std.specs.Prelude.{◌≡◌, ℕ, ◌+◌, ◌≤◌, List, map, length}
use mathlib.Core.Option.{some}
use lib.ListN.{get_elem?}
use Rattle.store_model.specs.History.{store_acts, IsLegal}
use Rattle.turn_table.specs.Seats.{Seated, TurnTableId, Joined, Closed, first_seat, next_seat}
use Rattle.turn_table.specs.declared.view.Ended.{Ended}
use Rattle.shared_store.specs.declared.closed.ClosedStore.{ClosedStore}

-- the table of VM number k is the k-th
abbrev pub AreNumbered : List TurnTableId → Type 0
AreNumbered tables = (k : ℕ) (t : TurnTableId) → get_elem? tables k ≡ some t → t.vm ≡ k

abbrev pub table_of : Seated → TurnTableId
table_of s = s.table

-- one seat at each of these tables, in their order
abbrev pub AreAt : List TurnTableId → List Seated → Type 0
AreAt tables seats = map table_of seats ≡ tables

-- worker 1's seats at new tables
abbrev pub first_seats : List TurnTableId → List Seated
first_seats tables = map first_seat tables

-- a seat after it gave out a number
abbrev pub after_giving : Seated → Seated
after_giving v = record v { given = v.given + 1 }

-- worker 1's seats after each gave out a number, and the seats of that number, which have seen as much
abbrev pub after_split : List Seated → List Seated
after_split seats = map after_giving seats

abbrev pub next_seats : List Seated → List Seated
next_seats seats = map next_seat seats

-- at each table the seat of the second list was joined into that of the first
pub record SeatsJoined (old ended new : List Seated) : Type 0 where
  pub as_many : length new ≡ length old
  pub each : (vm : ℕ) (v u w : Seated) → get_elem? old vm ≡ some v → get_elem? ended vm ≡ some u → get_elem? new vm ≡ some w → Joined store_acts v u w

-- each table was closed with its seat: the store after its one history, and the length of that history modulo 2^64
pub record TablesClosed (seats : List Seated) (stores : List ClosedStore) : Type 0 where
  pub as_many : length stores ≡ length seats
  pub each : (vm : ℕ) (v : Seated) (c : ClosedStore) → get_elem? seats vm ≡ some v → get_elem? stores vm ≡ some c → Closed store_acts v c.store c.calls

-- what each seat has seen is legal
abbrev pub AreLegal : List Seated → Type 0
AreLegal seats = (vm : ℕ) (v : Seated) → get_elem? seats vm ≡ some v → IsLegal vm v.seen

-- the seats of one worker
abbrev pub AreOf : ℕ → List Seated → Type 0
AreOf who seats = (vm : ℕ) (v : Seated) → get_elem? seats vm ≡ some v → v.number ≡ who

-- Worker 1's seats: each gave out the numbers up to one, and the seats of those up to another were joined into it.
pub record AreFirst (given joined : ℕ) (seats : List Seated) : Type 0 where
  pub first : AreOf 1 seats
  pub gave : (vm : ℕ) (v : Seated) → get_elem? seats vm ≡ some v → v.given ≡ given
  pub has : (vm : ℕ) (v : Seated) → get_elem? seats vm ≡ some v → (n : ℕ) → 2 ≤ n → n ≤ joined → (k : ℕ) × (e : Ended) × (get_elem? v.ended k ≡ some e) × (e.number ≡ n)
