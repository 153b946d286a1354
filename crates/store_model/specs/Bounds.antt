-- Each limit from both sides, on stores that are described by how much they hold.
use Rattle.std.specs.Prelude.{◌≡◌, ℕ, ◌+◌, List, [], ◌∷◌, length, replicate, nat_lt, nat_le, if◌then◌else◌}
use Rattle.store_model.specs.Keys.{no_keys}
use Rattle.store_model.specs.Queues.{Queue, no_queue}
use Rattle.store_model.specs.Store.{Store, empty_store, applied}
use Rattle.store_model.specs.Rows.{by, answers_from}
use Rattle.store_model.specs.declared.used.TheConstants.{MOST_NAMES, MOST_BYTES}
use Rattle.store_model.specs.declared.call.Call.TheVariants.{Set, Register, Enqueue, Dequeue}
use Rattle.store_model.specs.declared.call.Reply.TheVariants.{Done, Full, Id, Item}

-- a store without keys, whose first queue has these items, and for which so many notices are owed
abbrev pub store_of : List Queue → ℕ → Store
store_of queues owed = record { keys = no_keys; queues = record { vm = 0; queues = queues; owed = replicate owed 1 } }

abbrev pub queue_of : ℕ → Queue
queue_of items = record no_queue { items = replicate items [] }

-- With 1,023 items one more is taken, with 1,024 none, and once one has gone one more again.
abbrev pub items_of_a_queue : Type 0
items_of_a_queue =
    (answers_from (store_of (queue_of 1023 ∷ []) 0) (by 1 (Enqueue 1 []) ∷ by 1 (Enqueue 1 []) ∷ by 1 (Dequeue 1) ∷ by 1 (Enqueue 1 []) ∷ by 1 (Enqueue 1 []) ∷ []) ≡ Done 0 ∷ Full ∷ Item [] ∷ Done 0 ∷ Full ∷ [])
    × (applied (store_of (queue_of 1024 ∷ []) 0) 1 (Enqueue 1 []) ≡ record { store = store_of (queue_of 1024 ∷ []) 0; reply = Full })

-- With 1,023 notices owed one more comes to be owed, with 1,024 none; the item goes in both times.
abbrev pub notices_of_a_queue : Type 0
notices_of_a_queue =
    (applied (store_of (queue_of 0 ∷ []) 1023) 1 (Enqueue 1 []) ≡ record { store = store_of (queue_of 1 ∷ []) 1024; reply = Done 0 })
    × (applied (store_of (queue_of 0 ∷ []) 1024) 1 (Enqueue 1 []) ≡ record { store = store_of (queue_of 1 ∷ []) 1024; reply = Done 0 })

-- The number 4,294,967,295 is drawn, and none after it.
abbrev pub numbers_of_a_store : Type 0
numbers_of_a_store =
    answers_from (record (empty_store 0) { keys = record { entries = []; next = 4294967295 } }) (by 1 (Set (107 ∷ []) [] 0) ∷ by 1 (Set (107 ∷ []) [] 0) ∷ by 1 (Set (108 ∷ []) [] 0) ∷ []) ≡ Done 4294967295 ∷ Full ∷ Full ∷ []

-- Beside so many queues a new one, and a new key, is taken exactly below 65,536.
abbrev pub names_of_a_store : Type 0
names_of_a_store = (n : ℕ) →
    ((applied (store_of (replicate n no_queue) 0) 1 (Register (107 ∷ []) 1)).reply ≡ (if nat_lt n MOST_NAMES then Id (n + 1) else Full))
    × ((applied (store_of (replicate n no_queue) 0) 1 (Set (107 ∷ []) [] 0)).reply ≡ (if nat_lt n MOST_NAMES then Done 1 else Full))

-- A key of one byte takes a value, a queue with no bytes an item, and a store a name, up to 67,108,864 bytes in all.
abbrev pub bytes_of_a_store : Type 0
bytes_of_a_store = (bytes : List ℕ) →
    ((applied (empty_store 0) 1 (Set (107 ∷ []) bytes 0)).reply ≡ (if nat_le (1 + length bytes) MOST_BYTES then Done 1 else Full))
    × ((applied (store_of (queue_of 0 ∷ []) 0) 1 (Enqueue 1 bytes)).reply ≡ (if nat_le (length bytes) MOST_BYTES then Done 0 else Full))
    × ((applied (empty_store 0) 1 (Register bytes 1)).reply ≡ (if nat_le (length bytes) MOST_BYTES then Id 1 else Full))
