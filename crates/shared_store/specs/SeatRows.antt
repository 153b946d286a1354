-- Worked examples: what calls over seats come to, and what they do not.
use Rattle.std.specs.Global.{Vec}
use Rattle.std.specs.Prelude.{◌≡◌, ℕ, List, [], ◌∷◌}
use Rattle.atomic_table.specs.Seated.{TableId}
use Rattle.store_model.specs.History.{entry, store_after}
use Rattle.store_model.specs.Made.{made}
use Rattle.store_model.specs.declared.call.Reply.TheVariants.{Done, CasMismatch}
use Rattle.store_model.specs.declared.entry.Entry.{Entry}
use Rattle.turn_table.specs.Rows.{set_k}
use Rattle.turn_table.specs.Seats.{Seated, turn_table}
use Rattle.shared_store.specs.Moving.{SeatsGoOn}
use Rattle.shared_store.specs.Workers.{HasOneHistory}
use Rattle.shared_store.specs.declared.closed.ClosedStore.{ClosedStore}

-- worker 2's seat at the table of this VM, which has seen this
abbrev pub second_at : TableId → ℕ → List Entry → Seated
second_at t vm seen = record { table = turn_table t vm; number = 2; seen = seen; given = 0; ended = [] }

-- worker 1 set the key, and worker 2 had not seen it
abbrev pub first_done : Entry
first_done = entry 1 (set_k 49 0) (Done 1)

abbrev pub second_stale : Entry
second_stale = entry 2 (set_k 51 5) CasMismatch

-- Worker 2 calls on VM 1 alone: its seat there sees worker 1's entry and its own, and its seat at VM 0 nothing.
abbrev pub call_on_second_table : Type 0
call_on_second_table = (s t : TableId) →
    SeatsGoOn (second_at s 0 [] ∷ second_at t 1 [] ∷ []) (made 1 (set_k 51 5) CasMismatch ∷ []) (second_at s 0 [] ∷ second_at t 1 (first_done ∷ second_stale ∷ []) ∷ [])

-- the same call, recorded at the table of VM 0
abbrev pub call_on_wrong_table : Type 0
call_on_wrong_table = (s t : TableId) →
    SeatsGoOn (second_at s 0 [] ∷ second_at t 1 [] ∷ []) (made 1 (set_k 51 5) CasMismatch ∷ []) (second_at s 0 (first_done ∷ second_stale ∷ []) ∷ second_at t 1 [] ∷ []) → ⊥

-- a reply of another value than the one that worker 1 left
abbrev pub reply_of_an_old_copy : Type 0
reply_of_an_old_copy = (t : TableId) →
    SeatsGoOn (second_at t 0 [] ∷ []) (made 0 (set_k 51 0) (Done 1) ∷ []) (second_at t 0 (first_done ∷ entry 2 (set_k 51 0) (Done 1) ∷ []) ∷ []) → ⊥

-- the history that a seat had seen cannot be put aside
abbrev pub begun_anew : Type 0
begun_anew = (t : TableId) → SeatsGoOn (second_at t 0 (first_done ∷ []) ∷ []) [] (second_at t 0 [] ∷ []) → ⊥

-- worker 1's seat at the table of VM 0, which has seen this and gave out one number
abbrev pub leader : TableId → List Entry → Seated
leader t seen = record { table = turn_table t 0; number = 1; seen = seen; given = 2; ended = [] }

-- Both workers called, and worker 1 has not seen the other's entry: the one history has both, and the store is what it leaves.
abbrev pub one_history_of_two : Type 0
one_history_of_two = (t : TableId) (one two : Vec Seated) → one.items ≡ leader t (first_done ∷ []) ∷ [] → two.items ≡ second_at t 0 (first_done ∷ second_stale ∷ []) ∷ [] →
    HasOneHistory 0 (one ∷ two ∷ []) (record { store = store_after 0 (first_done ∷ second_stale ∷ []); calls = 2 })

-- an entry of a worker that had no seat
abbrev pub entry_of_nobody : Type 0
entry_of_nobody = (t : TableId) (one : Vec Seated) (c : ClosedStore) → one.items ≡ leader t (second_stale ∷ []) ∷ [] → HasOneHistory 0 (one ∷ []) c → ⊥
