-- One store, and what a call does to it.
use Rattle.std.specs.Prelude.{ℕ, Bool, true, false, not, List, [], ◌∷◌, Option, Some, None}
use Rattle.store_model.specs.Keys.{Held, Keys, no_keys, held_at, get_reply, accepts, set_reply, set_after, used_by_keys}
use Rattle.store_model.specs.Queues.{Queues, no_queues, named, index_of, oldest_for, register_reply, register_after, resolve_reply, enqueue_reply, enqueue_after, dequeue_reply, dequeue_after, notice_reply, notice_after, used_by_queues}
use Rattle.store_model.specs.declared.call.Call.{Call}
use Rattle.store_model.specs.declared.call.Call.TheVariants.{Get, Set, Register, Resolve, Enqueue, Dequeue, Notice}
use Rattle.store_model.specs.declared.call.Reply.{Reply}

pub record Store : Type 0 where
  pub keys : Keys
  pub queues : Queues

-- the store of a VM name at the start
abbrev pub empty_store : ℕ → Store
empty_store vm = record { keys = no_keys; queues = no_queues vm }

-- the store after a call, and the reply
pub record Answer : Type 0 where
  pub store : Store
  pub reply : Reply

-- What a worker's call makes of a store. The limits are over both parts.
abbrev pub applied : Store → ℕ → Call → Answer
applied s who (Get key) = record { store = s; reply = get_reply s.keys key }
applied s who (Set key value number) =
    let other = used_by_queues s.queues in
    record { store = record s { keys = set_after other s.keys key value number }; reply = set_reply other s.keys key value number }
applied s who (Register name root) =
    let other = used_by_keys s.keys in
    record { store = record s { queues = register_after other s.queues who root name (named s.queues name) }; reply = register_reply other s.queues who root name (named s.queues name) }
applied s who (Resolve name) = record { store = s; reply = resolve_reply s.queues (named s.queues name) }
applied s who (Enqueue queue item) =
    let other = used_by_keys s.keys in
    record { store = record s { queues = enqueue_after other s.queues item (index_of s.queues queue) }; reply = enqueue_reply other s.queues item (index_of s.queues queue) }
applied s who (Dequeue queue) =
    record { store = record s { queues = dequeue_after s.queues (index_of s.queues queue) }; reply = dequeue_reply s.queues (index_of s.queues queue) }
applied s who Notice =
    record { store = record s { queues = notice_after s.queues who }; reply = notice_reply s.queues (oldest_for s.queues who s.queues.owed) }

abbrev pub is_no_byte : List ℕ → Bool
is_no_byte [] = true
is_no_byte (b ∷ bs) = false

-- nothing has to be copied
abbrev pub is_bare : Option Held → Bool
is_bare None = true
is_bare (Some h) = is_no_byte h.value

-- the calls that take no memory: Resolve, Dequeue, Notice, a Set under a number that is not the key's, and a Get of no key or of an empty value
abbrev pub takes_no_memory : Call → Store → Bool
takes_no_memory (Get key) s = is_bare (held_at s.keys key)
takes_no_memory (Set key value number) s = not (accepts s.keys key number)
takes_no_memory (Register name root) s = false
takes_no_memory (Resolve name) s = true
takes_no_memory (Enqueue queue item) s = false
takes_no_memory (Dequeue queue) s = true
takes_no_memory Notice s = true
