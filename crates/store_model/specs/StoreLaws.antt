-- What holds of every store that calls make: its limits, what a refused call leaves, and what the ids of queues name.
use Rattle.std.specs.Prelude.{◌≡◌, ℕ, ◌+◌, ◌<◌, ◌≤◌, ◌⊎◌, List, length, Option, All, true, Some, None}
use Rattle.std.specs.Option.{option_map}
use Rattle.store_model.specs.Keys.{accepts, used_by_keys}
use Rattle.store_model.specs.Queues.{Queues, index_of, named, owed_for, queue_in, used_by_queues}
use Rattle.store_model.specs.Store.{Store}
use Rattle.store_model.specs.declared.used.TheConstants.{MOST_NAMES, MOST_BYTES, MOST_ITEMS, MOST_NOTICES, MOST_NUMBER}
use Rattle.store_model.specs.declared.used.Used.{Used}
use Rattle.store_model.specs.declared.call.Call.{Call}
use Rattle.store_model.specs.declared.call.Call.TheVariants.{Set, Register, Enqueue}
use Rattle.store_model.specs.declared.call.Reply.{Reply}
use Rattle.store_model.specs.declared.call.Reply.TheVariants.{Absent, CasMismatch, Full, Empty, NoneOwed}

-- every limit of a store holds
pub record IsInLimits (s : Store) : Type 0 where
  pub names : length s.keys.entries + length s.queues.queues ≤ MOST_NAMES
  pub bytes : (used_by_keys s.keys).bytes + (used_by_queues s.queues).bytes ≤ MOST_BYTES
  pub numbers : All (λ e. e.1.number ≤ MOST_NUMBER) s.keys.entries
  pub items : All (λ q. length q.items ≤ MOST_ITEMS) s.queues.queues
  pub notices : (id : ℕ) → owed_for s.queues.owed id ≤ MOST_NOTICES

-- both parts together pass a limit of names or of bytes
abbrev pub PassesLimit : Used → Used → Type 0
PassesLimit a b = (MOST_NAMES < a.names + b.names) ⊎ (MOST_BYTES < a.bytes + b.bytes)

-- the replies that refuse
abbrev pub IsRefusal : Reply → Type 0
IsRefusal Absent = Unit {0}
IsRefusal CasMismatch = Unit {0}
IsRefusal Full = Unit {0}
IsRefusal Empty = Unit {0}
IsRefusal NoneOwed = Unit {0}
IsRefusal _ = ⊥

-- the name of the queue of an id, if it is one of this store
abbrev pub name_of : Queues → ℕ → Option (List ℕ)
name_of q id = option_map (λ k. (queue_in q k).name) (index_of q id)

-- the calls that a limit may refuse: a Set whose number is accepted, a Register of a new name, an Enqueue of a queue that is there
abbrev pub MayBeFull : Store → Call → Type 0
MayBeFull s (Set key value number) = accepts s.keys key number ≡ true
MayBeFull s (Register name root) = named s.queues name ≡ None
MayBeFull s (Enqueue queue item) = (k : ℕ) × (index_of s.queues queue ≡ Some k)
MayBeFull s _ = ⊥
