-- What the calls of a turn table say of its seats.
use Rattle.std.specs.Prelude.{◌≡◌, ◌≢◌, ℕ, ◌+◌, ◌%◌, ◌^◌, ◌<◌, ◌≤◌, true, List, [], ◌∷◌, ◌++◌, length}
use mathlib.Core.List.{IsPrefix}
use mathlib.Core.Option.{some}
use lib.ListN.{get_elem?}
use Rattle.atomic_table.specs.Seated.{TableId}
use Rattle.store_model.specs.History.{Acts, own, entry}
use Rattle.store_model.specs.declared.call.Call.{Call}
use Rattle.store_model.specs.declared.call.Reply.{Reply}
use Rattle.store_model.specs.declared.entry.Entry.{Entry}
use Rattle.turn_table.specs.declared.view.Ended.{Ended}
use Rattle.turn_table.specs.declared.view.View.{View}
use Rattle.turn_table.specs.Histories.{value_after, IsLegalFor}
use Rattle.turn_table.specs.Views.{spent_view, ended, longer}

-- which table it is, and the number of the VM whose value it has
pub record TurnTableId : Type 0 where
  pub table : TableId
  pub vm : ℕ

abbrev pub turn_table : TableId → ℕ → TurnTableId
turn_table t vm = record { table = t; vm = vm }

-- the table has three words and one slot
abbrev pub HasShape : TableId → Type 0
HasShape t = (t.words ≡ 3) × (t.slots ≡ 1)

-- A seat between two calls: its table, its worker's number, the entries that it has seen, how many numbers were given out, and the seats that were joined into it. The last two count at the seat of number 1 alone.
pub record Seated : Type 0 where
  pub table : TurnTableId
  pub number : ℕ
  pub seen : List Entry
  pub given : ℕ
  pub ended : List Ended

-- the one view of a badge
abbrev pub view_in : List View → View
view_in [] = spent_view
view_in (v ∷ vs) = v

abbrev pub seated : TableId → View → Seated
seated t v = record { table = turn_table t v.vm; number = v.number; seen = v.seen; given = v.given; ended = v.ended }

-- worker 1's seat at a new table
abbrev pub first_seat : TurnTableId → Seated
first_seat t = record { table = t; number = 1; seen = []; given = 1; ended = [] }

-- the seat of the next number, which has seen as much
abbrev pub next_seat : Seated → Seated
next_seat v = record { table = v.table; number = v.given + 1; seen = v.seen; given = 0; ended = [] }

-- the seat is as before, but for what it has seen
abbrev pub IsSameSeat : Seated → Seated → Type 0
IsSameSeat v w = w ≡ record v { seen = w.seen }

-- each number that the seat gave out was joined into it
abbrev pub HasAll : Seated → Type 0
HasAll v = (n : ℕ) → 2 ≤ n → n ≤ v.given → (k : ℕ) × (e : Ended) × (get_elem? v.ended k ≡ some e) × (e.number ≡ n)

module _ {S : Type 0} (a : Acts S) where
  -- The seat saw entries of other workers, any number, and then made the call with this reply: its new seen is legal, and its own entries are the old ones and this one.
  pub record Called (v w : Seated) (call : Call) (reply : Reply) : Type 0 where
    pub others : List Entry
    pub foreign : own v.number others ≡ []
    pub seen : w.seen ≡ (v.seen ++ others) ++ entry v.number call reply ∷ []
    pub legal : IsLegalFor a w.table.vm w.seen
    pub entries : own v.number w.seen ≡ own v.number v.seen ++ entry v.number call reply ∷ []

  -- The seat saw entries of other workers, any number, and there was no memory for the call, which is not one of those that are sure to be answered.
  pub record Refused (v w : Seated) (call : Call) : Type 0 where
    pub others : List Entry
    pub foreign : own v.number others ≡ []
    pub seen : w.seen ≡ v.seen ++ others
    pub legal : IsLegalFor a w.table.vm w.seen
    pub entries : own v.number w.seen ≡ own v.number v.seen
    pub unsure : a.sure call (value_after a w.table.vm w.seen) ≢ true

  -- The seat u was joined into v: the longer of the two seens is left, of which the shorter is a prefix, and the entries of both workers stand in it.
  pub record Joined (v u w : Seated) : Type 0 where
    pub seat : w ≡ record v { seen = longer v.seen u.seen; ended = v.ended ++ ended u.number u.seen ∷ [] }
    pub begins : IsPrefix v.seen w.seen
    pub ended_begins : IsPrefix u.seen w.seen
    pub entries : own v.number w.seen ≡ own v.number v.seen
    pub ended_entries : own u.number w.seen ≡ own u.number u.seen
    pub legal : IsLegalFor a w.table.vm w.seen

  -- The seat's seen is the one history: it leaves the value, its length is the count, each ended seat's seen is a beginning of it that has all entries of that worker, and no number that was not given out has an entry.
  pub record Closed (v : Seated) (value : S) (count : ℕ) : Type 0 where
    pub value_is : value ≡ value_after a v.table.vm v.seen
    pub count_is : count ≡ length v.seen % 2 ^ 64
    pub legal : IsLegalFor a v.table.vm v.seen
    pub ended : (k : ℕ) (e : Ended) → get_elem? v.ended k ≡ some e → IsPrefix e.seen v.seen × (own e.number v.seen ≡ own e.number e.seen)
    pub none_of_zero : own 0 v.seen ≡ []
    pub none_past : (n : ℕ) → v.given < n → own n v.seen ≡ []
