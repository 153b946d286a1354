-- The calls of each part of a store, as functions of that part and of what the other one uses.
use Rattle.std.specs.Prelude.{◌≡◌, ℕ, Bool, true, false, not, refl}
use Rattle.store_model.specs.Keys.{Keys, held_at, get_reply, accepts, set_reply, set_after, used_by_keys}
use Rattle.store_model.specs.Queues.{Queues, named, index_of, oldest_for, register_reply, register_after, resolve_reply, enqueue_reply, enqueue_after, dequeue_reply, dequeue_after, notice_reply, notice_after, used_by_queues}
use Rattle.store_model.specs.Store.{Store, applied, takes_no_memory, is_bare}
use Rattle.store_model.specs.declared.call.Call.{Call}
use Rattle.store_model.specs.declared.call.Call.TheVariants.{Get, Set, Register, Resolve, Enqueue, Dequeue, Notice}
use Rattle.store_model.specs.declared.call.Reply.{Reply}
use Rattle.store_model.specs.declared.call.Reply.TheVariants.{Absent}
use Rattle.store_model.specs.declared.used.Used.{Used}

-- Get and Set speak of keys
abbrev pub IsKeyCall : Call → Type 0
IsKeyCall (Get key) = Unit {0}
IsKeyCall (Set key value number) = Unit {0}
IsKeyCall _ = ⊥

-- the other calls speak of queues
abbrev pub IsQueueCall : Call → Type 0
IsQueueCall (Get key) = ⊥
IsQueueCall (Set key value number) = ⊥
IsQueueCall _ = Unit {0}

abbrev pub keys_reply : Used → Keys → Call → Reply
keys_reply other d (Get key) = get_reply d key
keys_reply other d (Set key value number) = set_reply other d key value number
keys_reply other d _ = Absent

abbrev pub keys_after : Used → Keys → Call → Keys
keys_after other d (Set key value number) = set_after other d key value number
keys_after other d _ = d

-- a Get of no key or of an empty value, and a Set under a number that is not the key's
abbrev pub keys_take_no_memory : Call → Keys → Bool
keys_take_no_memory (Get key) d = is_bare (held_at d key)
keys_take_no_memory (Set key value number) d = not (accepts d key number)
keys_take_no_memory _ d = false

abbrev pub queues_reply : Used → Queues → ℕ → Call → Reply
queues_reply other q who (Register name root) = register_reply other q who root name (named q name)
queues_reply other q who (Resolve name) = resolve_reply q (named q name)
queues_reply other q who (Enqueue queue item) = enqueue_reply other q item (index_of q queue)
queues_reply other q who (Dequeue queue) = dequeue_reply q (index_of q queue)
queues_reply other q who Notice = notice_reply q (oldest_for q who q.owed)
queues_reply other q who _ = Absent

abbrev pub queues_after : Used → Queues → ℕ → Call → Queues
queues_after other q who (Register name root) = register_after other q who root name (named q name)
queues_after other q who (Enqueue queue item) = enqueue_after other q item (index_of q queue)
queues_after other q who (Dequeue queue) = dequeue_after q (index_of q queue)
queues_after other q who Notice = notice_after q who
queues_after other q who _ = q

-- Resolve, Dequeue and Notice
abbrev pub queues_take_no_memory : Call → Bool
queues_take_no_memory (Resolve name) = true
queues_take_no_memory (Dequeue queue) = true
queues_take_no_memory Notice = true
queues_take_no_memory _ = false

pub keys_applied : (s : Store) (who : ℕ) (call : Call) → IsKeyCall call →
    applied s who call ≡ record { store = record s { keys = keys_after (used_by_queues s.queues) s.keys call }; reply = keys_reply (used_by_queues s.queues) s.keys call }
keys_applied s who (Get key) own = refl
keys_applied s who (Set key value number) own = refl
keys_applied s who (Register name root) own = absurd own
keys_applied s who (Resolve name) own = absurd own
keys_applied s who (Enqueue queue item) own = absurd own
keys_applied s who (Dequeue queue) own = absurd own
keys_applied s who Notice own = absurd own

pub queues_applied : (s : Store) (who : ℕ) (call : Call) → IsQueueCall call →
    applied s who call ≡ record { store = record s { queues = queues_after (used_by_keys s.keys) s.queues who call }; reply = queues_reply (used_by_keys s.keys) s.queues who call }
queues_applied s who (Get key) own = absurd own
queues_applied s who (Set key value number) own = absurd own
queues_applied s who (Register name root) own = refl
queues_applied s who (Resolve name) own = refl
queues_applied s who (Enqueue queue item) own = refl
queues_applied s who (Dequeue queue) own = refl
queues_applied s who Notice own = refl

pub keys_sure : (s : Store) (call : Call) → IsKeyCall call → takes_no_memory call s ≡ keys_take_no_memory call s.keys
keys_sure s (Get key) own = refl
keys_sure s (Set key value number) own = refl
keys_sure s (Register name root) own = absurd own
keys_sure s (Resolve name) own = absurd own
keys_sure s (Enqueue queue item) own = absurd own
keys_sure s (Dequeue queue) own = absurd own
keys_sure s Notice own = absurd own

pub queues_sure : (s : Store) (call : Call) → IsQueueCall call → takes_no_memory call s ≡ queues_take_no_memory call
queues_sure s (Get key) own = absurd own
queues_sure s (Set key value number) own = absurd own
queues_sure s (Register name root) own = refl
queues_sure s (Resolve name) own = refl
queues_sure s (Enqueue queue item) own = refl
queues_sure s (Dequeue queue) own = refl
queues_sure s Notice own = refl
