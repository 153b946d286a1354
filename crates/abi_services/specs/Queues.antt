-- The calls on shared queues. A queue is registered under the caller's own VM name, and found and used under any.
use Rattle.std.specs.Prelude.{ℕ, ◌/◌, ◌&&◌, Bool, nat_lt, nat_le, List, length, bytes_eq, Option, None, Some, if◌then◌else◌}
use Rattle.std.specs.List.{position}
use Rattle.store_model.specs.Program.{Program, done, ask}
use Rattle.store_model.specs.declared.call.Call.{Call}
use Rattle.store_model.specs.declared.call.Call.TheVariants as store
use Rattle.store_model.specs.declared.call.Reply.{Reply}
use Rattle.store_model.specs.declared.call.Reply.TheVariants as reply
use Rattle.abi_model.specs.Asking.{Asking}
use Rattle.abi_model.specs.Calls.{only, given}
use Rattle.abi_model.specs.Table.{arg}
use Rattle.abi_model.specs.declared.ends.Outcome.{Outcome}
use Rattle.abi_model.specs.declared.ends.Gives.TheVariants.{Number, Bytes}

-- a number of a VM of which the names are these
abbrev pub is_vm : ℕ → List (List ℕ) → Bool
is_vm n names = nat_le n 15 && nat_lt n (length names)

-- where there is such a VM, the store of its number is asked; else the answer is 1 and nothing is asked
abbrev pub asking_of : (vm : ℕ) → Call → (Reply → Outcome) → List (List ℕ) → Program Outcome
asking_of vm call answer names = if is_vm vm names then ask vm call (λ r. done (answer r)) else done (only 1)

abbrev pub id_or_full : Reply → Outcome
id_or_full (reply.Id queue) = given (Number queue)
id_or_full _ = only 10

abbrev pub registering : (vm : ℕ) → List ℕ → Option ℕ → Program Outcome
registering vm name None = done (only 2)
registering vm name (Some root) = ask vm (store.Register name root) (λ r. done (id_or_full r))

-- the registrant is the effective context's root
abbrev pub own_register_shared_queue : Asking
own_register_shared_queue vm args inputs s = registering vm inputs.first s.reach.root

abbrev pub id_or_absent : Reply → Outcome
id_or_absent (reply.Id queue) = given (Number queue)
id_or_absent _ = only 1

abbrev pub resolving : Option ℕ → List ℕ → List (List ℕ) → Program Outcome
resolving None name names = done (only 1)
resolving (Some vm) name names = asking_of vm (store.Resolve name) id_or_absent names

-- the VM of a name
abbrev pub vm_named : List ℕ → List (List ℕ) → Option ℕ
vm_named vm_name names = position (λ n. bytes_eq n vm_name) names

abbrev pub own_resolve_shared_queue : Asking
own_resolve_shared_queue vm args inputs s = resolving (vm_named inputs.first s.common.names) inputs.second s.common.names

-- the number of its VM stands in a queue's id from bit 24 on
abbrev pub vm_of_queue : ℕ → ℕ
vm_of_queue id = id / 16777216

abbrev pub item_in : Reply → Outcome
item_in (reply.Item item) = given (Bytes item)
item_in reply.Empty = only 7
item_in _ = only 1

abbrev pub dequeuing : ℕ → List (List ℕ) → Program Outcome
dequeuing id names = asking_of (vm_of_queue id) (store.Dequeue id) item_in names

abbrev pub own_dequeue_shared_queue : Asking
own_dequeue_shared_queue vm args inputs s = dequeuing (arg args 0) s.common.names

abbrev pub was_put : Reply → Outcome
was_put (reply.Done number) = only 0
was_put reply.Full = only 10
was_put _ = only 1

abbrev pub enqueuing : ℕ → List ℕ → List (List ℕ) → Program Outcome
enqueuing id item names = asking_of (vm_of_queue id) (store.Enqueue id item) was_put names

abbrev pub own_enqueue_shared_queue : Asking
own_enqueue_shared_queue vm args inputs s = enqueuing (arg args 0) inputs.first s.common.names
