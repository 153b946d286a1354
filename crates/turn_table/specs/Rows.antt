-- Worked examples: a history of two workers, and tables that keep the rule or do not.
use Rattle.std.specs.Prelude.{◌≡◌, ℕ, List, [], ◌∷◌}
use Rattle.atomic_table.specs.Seated.{TableId}
use Rattle.atomic_table.specs.Table.{State, opening}
use Rattle.store_model.specs.History.{store_acts, entry, own}
use Rattle.store_model.specs.Store.{Store, empty_store}
use Rattle.store_model.specs.declared.call.Call.{Call}
use Rattle.store_model.specs.declared.call.Call.TheVariants.{Get, Set}
use Rattle.store_model.specs.declared.call.Reply.{Reply}
use Rattle.store_model.specs.declared.call.Reply.TheVariants.{Value, Done, CasMismatch}
use Rattle.store_model.specs.declared.entry.Entry.{Entry}
use Rattle.turn_table.specs.declared.view.View.{View}
use Rattle.turn_table.specs.Histories.{value_after, IsLegalFor}
use Rattle.turn_table.specs.Rule.{Kept, AreApart}
use Rattle.turn_table.specs.Seats.{Seated, turn_table, Called}
use Rattle.turn_table.specs.Views.{first_view, after_split, split_off, longer}

-- the key "k" is set to this byte
abbrev pub set_k : ℕ → ℕ → Call
set_k byte number = Set (107 ∷ []) (byte ∷ []) number

abbrev pub value_k : ℕ → ℕ → Reply
value_k byte number = Value (byte ∷ []) number

-- Two workers set the key under the numbers that they have read. The stale number 1 is refused.
abbrev pub row : List Entry
row =
    entry 1 (set_k 49 0) (Done 1) ∷ entry 2 (Get (107 ∷ [])) (value_k 49 1) ∷ entry 1 (set_k 50 1) (Done 2) ∷ entry 2 (set_k 51 1) CasMismatch ∷ entry 2 (Get (107 ∷ [])) (value_k 50 2) ∷ entry 2 (set_k 51 2) (Done 3) ∷ []

abbrev pub row_is_legal : Type 0
row_is_legal = IsLegalFor store_acts 0 row

-- the same with a Set that is done under the stale number
abbrev pub stale_row_is_not : Type 0
stale_row_is_not = IsLegalFor store_acts 0 (entry 1 (set_k 49 0) (Done 1) ∷ entry 1 (set_k 50 1) (Done 2) ∷ entry 2 (set_k 51 1) (Done 3) ∷ []) → ⊥

-- worker 1 has two entries of the six
abbrev pub first_workers_own : Type 0
first_workers_own = own 1 row ≡ entry 1 (set_k 49 0) (Done 1) ∷ entry 1 (set_k 50 1) (Done 2) ∷ []

-- a seat of worker 2, which has seen this
abbrev pub second : TableId → List Entry → Seated
second t seen = record { table = turn_table t 0; number = 2; seen = seen; given = 0; ended = [] }

-- Worker 2 had read the number 1, and worker 1 set the key before it did: the seat has then seen worker 1's entry and its own.
abbrev pub stale_call : Type 0
stale_call = (t : TableId) →
    Called store_acts (second t (entry 1 (set_k 49 0) (Done 1) ∷ entry 2 (Get (107 ∷ [])) (value_k 49 1) ∷ []))
    (second t (entry 1 (set_k 49 0) (Done 1) ∷ entry 2 (Get (107 ∷ [])) (value_k 49 1) ∷ entry 1 (set_k 50 1) (Done 2) ∷ entry 2 (set_k 51 1) CasMismatch ∷ []))
    (set_k 51 1) CasMismatch

-- the longer list stays, whichever seat has it
abbrev pub longer_stays : Type 0
longer_stays = (a b : Entry) → (longer (a ∷ []) (a ∷ b ∷ []) ≡ a ∷ b ∷ []) × (longer (a ∷ b ∷ []) (a ∷ []) ≡ a ∷ b ∷ [])

-- a table with this turn, this count, this mark that seats sleep, this store at home, and one view
abbrev pub lone : ℕ → ℕ → ℕ → Store → View → State Store View
lone turn count asleep store v = opening (turn ∷ count ∷ asleep ∷ []) (store ∷ []) v

abbrev pub new_table_keeps : Type 0
new_table_keeps = Kept store_acts 0 (lone 0 0 0 (empty_store 0) (first_view 0))

-- the mark may stand while nobody has the turn
abbrev pub any_mark_keeps : Type 0
any_mark_keeps = (asleep : ℕ) → Kept store_acts 0 (lone 0 0 asleep (empty_store 0) (first_view 0))

-- the turn is taken, and nobody has it
abbrev pub turn_without_holder : Type 0
turn_without_holder = Kept store_acts 0 (lone 1 0 0 (empty_store 0) (first_view 0)) → ⊥

-- a call is counted that nobody has seen
abbrev pub count_ahead : Type 0
count_ahead = Kept store_acts 0 (lone 0 1 0 (empty_store 0) (first_view 0)) → ⊥

-- the store at home is not what the history leaves
abbrev pub store_ahead : Type 0
store_ahead = Kept store_acts 0 (lone 0 0 0 (value_after store_acts 0 row) (first_view 0)) → ⊥

-- The two views have one number.
abbrev pub one_number_twice : Type 0
one_number_twice = AreApart (first_view 0 ∷ first_view 0 ∷ []) → ⊥

-- the numbers are given out in order
abbrev pub numbers_in_order : Type 0
numbers_in_order = ((split_off (first_view 0)).number ≡ 2) × ((split_off (after_split (first_view 0))).number ≡ 3)
