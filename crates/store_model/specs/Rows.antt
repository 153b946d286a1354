-- Worked examples: the answers to some calls on an empty store, in order.
use Rattle.std.specs.Prelude.{◌≡◌, ℕ, List, [], ◌∷◌}
use Rattle.store_model.specs.Store.{Store, empty_store, applied}
use Rattle.store_model.specs.declared.call.Call.{Call}
use Rattle.store_model.specs.declared.call.Call.TheVariants.{Get, Set, Register, Resolve, Enqueue, Dequeue, Notice}
use Rattle.store_model.specs.declared.call.Reply.{Reply}
use Rattle.store_model.specs.declared.call.Reply.TheVariants.{Absent, Value, Done, CasMismatch, Id, Item, Empty, Owed, NoneOwed}

-- a call of a worker
pub record Asks : Type 0 where
  pub who : ℕ
  pub call : Call

abbrev pub by : ℕ → Call → Asks
by who call = record { who = who; call = call }

abbrev pub answers_from : Store → List Asks → List Reply
answers_from s [] = []
answers_from s (a ∷ later) = (applied s a.who a.call).reply ∷ answers_from (applied s a.who a.call).store later

abbrev pub answers : ℕ → List Asks → List Reply
answers vm calls = answers_from (empty_store vm) calls

-- Two workers set the key "k". The Set under the stale number 1 draws no number.
abbrev pub compare_and_set : Type 0
compare_and_set =
    answers 0 (
    by 1 (Set (107 ∷ []) (49 ∷ []) 0) ∷ by 2 (Get (107 ∷ [])) ∷ by 1 (Set (107 ∷ []) (50 ∷ []) 1) ∷ by 2 (Set (107 ∷ []) (51 ∷ []) 1) ∷ by 2 (Get (107 ∷ [])) ∷ by 2 (Set (107 ∷ []) (51 ∷ []) 2) ∷ []
    ) ≡ Done 1 ∷ Value (49 ∷ []) 1 ∷ Done 2 ∷ CasMismatch ∷ Value (50 ∷ []) 2 ∷ Done 3 ∷ []

-- A key that is not there has no number.
abbrev pub set_of_no_key : Type 0
set_of_no_key = answers 0 (by 1 (Set (107 ∷ []) (49 ∷ []) 7) ∷ by 1 (Get (107 ∷ [])) ∷ []) ≡ CasMismatch ∷ Absent ∷ []

-- An empty value is a value.
abbrev pub empty_value : Type 0
empty_value = answers 0 (by 1 (Set (107 ∷ []) [] 0) ∷ by 1 (Get (107 ∷ [])) ∷ []) ≡ Done 1 ∷ Value [] 1 ∷ []

-- Keys are apart, and share the numbers.
abbrev pub two_keys : Type 0
two_keys =
    answers 0 (by 1 (Set (98 ∷ []) (49 ∷ []) 0) ∷ by 1 (Set (97 ∷ []) (50 ∷ []) 0) ∷ by 1 (Set (97 ∷ 97 ∷ []) (51 ∷ []) 0) ∷ by 2 (Get (97 ∷ [])) ∷ by 2 (Get (98 ∷ [])) ∷ by 2 (Get (97 ∷ 97 ∷ [])) ∷ [])
    ≡ Done 1 ∷ Done 2 ∷ Done 3 ∷ Value (50 ∷ []) 2 ∷ Value (49 ∷ []) 1 ∷ Value (51 ∷ []) 3 ∷ []

-- An id names its store and its place. What is put in comes out in order.
abbrev pub first_in_first_out : Type 0
first_in_first_out =
    answers 2 (
    by 1 (Dequeue 33554433) ∷ by 1 (Resolve (113 ∷ [])) ∷ by 1 (Register (113 ∷ []) 1) ∷ by 1 (Register (114 ∷ []) 1) ∷ by 2 (Resolve (113 ∷ [])) ∷ by 1 (Dequeue 33554433) ∷ by 1 (Enqueue 33554433 (97 ∷ [])) ∷ by 2 (Enqueue 33554433 (98 ∷ [])) ∷ by 2 (Dequeue 33554434) ∷
    by 2 (Dequeue 33554433) ∷ by 1 (Dequeue 33554433) ∷ by 1 (Dequeue 33554433) ∷ by 1 (Enqueue 33554435 []) ∷ by 1 (Enqueue 1 []) ∷ []
    ) ≡ Absent ∷ Absent ∷ Id 33554433 ∷ Id 33554434 ∷ Id 33554433 ∷ Empty ∷ Done 0 ∷ Done 0 ∷ Empty ∷ Item (97 ∷ []) ∷ Item (98 ∷ []) ∷ Empty ∷ Absent ∷ Absent ∷ []

-- A notice goes to the worker and the root that are the registrant when it is taken, the oldest first, also where the item is gone.
abbrev pub registrant_now : Type 0
registrant_now =
    answers 0 (
    by 1 (Register (113 ∷ []) 1) ∷ by 2 (Register (114 ∷ []) 2) ∷ by 1 (Enqueue 2 (97 ∷ [])) ∷ by 2 (Enqueue 1 (98 ∷ [])) ∷ by 1 (Enqueue 2 (99 ∷ [])) ∷ by 3 Notice ∷ by 1 (Dequeue 2) ∷ by 1 (Register (114 ∷ []) 5) ∷
    by 2 Notice ∷ by 1 Notice ∷ by 1 Notice ∷ by 1 Notice ∷ by 1 Notice ∷ []
    ) ≡ Id 1 ∷ Id 2 ∷ Done 0 ∷ Done 0 ∷ Done 0 ∷ NoneOwed ∷ Item (97 ∷ []) ∷ Id 2 ∷ NoneOwed ∷ Owed 5 2 ∷ Owed 1 1 ∷ Owed 5 2 ∷ NoneOwed ∷ []
