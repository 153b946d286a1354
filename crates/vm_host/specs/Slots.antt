-- All VMs of a worker, and what their callbacks do.
use Rattle.std.specs.Prelude.{◌&&◌, ℕ, Bool, true, false, nat_lt, nat_le, if◌then◌else◌, List, [], length, Option, None, Some, is_some, slice_index_or, slice_set}
use Rattle.wasm_syntax.specs.declared.module.Module.{Module}
use Rattle.gate_io.specs.declared.event.Sent.{Sent}
use Rattle.store_model.specs.Program.{Program, done, bind}
use Rattle.contexts.specs.declared.parts.Contexts.{Contexts}
use Rattle.filter_host.specs.Called.{Called, called_back}
use Rattle.filter_host.specs.declared.host.Callback.{Callback}
use Rattle.filter_host.specs.declared.host.Callback.TheVariants as callback
use Rattle.filter_host.specs.declared.host.CallbackEnd.{CallbackEnd}
use Rattle.filter_host.specs.declared.host.CallbackEnd.TheVariants as call_end
use Rattle.filter_host.specs.declared.host.Death.TheVariants as death
use Rattle.vm_host.specs.declared.ended.LastRunEnd.{LastRunEnd}
use Rattle.vm_host.specs.declared.ended.LastRunEnd.TheVariants as ended
use Rattle.vm_host.specs.declared.roles.Role.{Role}
use Rattle.vm_host.specs.declared.roles.Role.TheVariants as role
use Rattle.vm_host.specs.declared.slots.Slot.{Slot}
use Rattle.vm_host.specs.declared.slots.Vms.{Vms}
use Rattle.vm_host.specs.HostStates.{HostState, host_state}
use Rattle.vm_host.specs.Targets.{targets_of, registers_in}
use Rattle.vm_host.specs.RoleTypes.{functions_for, function_for}
use Rattle.vm_host.specs.Vms.{VmAt, Ran, first_vm, beginning, calling_role}

-- the role of a callback; what begins a VM is more than one function
abbrev pub role_of : Callback → Option Role
role_of callback.Begin = None
role_of callback.ContextCreate = Some role.ContextCreate
role_of callback.VmStart = Some role.VmStart
role_of callback.Configure = Some role.Configure
role_of callback.Tick = Some role.Tick
role_of callback.QueueReady = Some role.QueueReady
role_of callback.RequestHeaders = Some role.RequestHeaders
role_of callback.RequestBody = Some role.RequestBody
role_of callback.RequestTrailers = Some role.RequestTrailers
role_of callback.ResponseHeaders = Some role.ResponseHeaders
role_of callback.ResponseBody = Some role.ResponseBody
role_of callback.ResponseTrailers = Some role.ResponseTrailers
role_of callback.Done = Some role.Done
role_of callback.Log = Some role.Log
role_of callback.Delete = Some role.Delete
role_of callback.CallAnswered = Some role.CallAnswered
role_of callback.NewConnection = Some role.NewConnection
role_of callback.DownstreamData = Some role.DownstreamData
role_of callback.UpstreamData = Some role.UpstreamData
role_of callback.DownstreamClose = Some role.DownstreamClose
role_of callback.UpstreamClose = Some role.UpstreamClose

-- ---- slots

-- a VM on which nothing has run
abbrev pub first_slot : (place : ℕ) → Module → (pages fuel : ℕ) → Slot
first_slot place m pages fuel = record { functions = functions_for m.exports; registers = registers_in (targets_of m.imports); live = Some (first_vm place m pages fuel) }

-- one that is never started
abbrev pub no_slot : Slot
no_slot = record { functions = []; registers = false; live = None }

abbrev pub slot_in : Vms → ℕ → Slot
slot_in v vm = slice_index_or v.slots vm no_slot

abbrev pub exports_role : List (Option ℕ) → Option Role → Bool
exports_role functions None = false
exports_role functions (Some r) = is_some (function_for functions r)

abbrev pub exported_in : Vms → ℕ → Callback → Bool
exported_in v vm name = exports_role (slot_in v vm).functions (role_of name)

abbrev pub registering_in : Vms → ℕ → Bool
registering_in v vm = (slot_in v vm).registers

-- ---- callbacks

abbrev pub end_of : LastRunEnd → CallbackEnd
end_of (ended.Returned v) = call_end.Returned v
end_of (ended.Trapped c) = call_end.Died (death.Trapped c)
end_of ended.FuelSpent = call_end.Died death.FuelSpent

-- how a callback ended, what it wrote into the log, what is left of the VM, and the contexts
pub record Came : Type 0 where
  pub end : CallbackEnd
  pub lines : List Sent
  pub live : Option VmAt
  pub contexts : Contexts

abbrev pub came : CallbackEnd → List Sent → Option VmAt → Contexts → Came
came end lines live contexts = record { end = end; lines = lines; live = live; contexts = contexts }

abbrev pub came_of : Ran → Came
came_of r = came (end_of r.end) r.state.lines r.vm r.state.contexts

-- nothing is done
abbrev pub silent : Option VmAt → Contexts → Came
silent live h = came (call_end.Returned None) [] live h

abbrev pub by_role : Option Role → VmAt → (now context first second : ℕ) → HostState → Program Ran
by_role None v now context first second s = beginning v now s
by_role (Some r) v now context first second s = calling_role v now r context first second s

unfoldable pub calling_live : VmAt → Callback → (context first second now : ℕ) → Contexts → Program Came
calling_live v name context first second now h = bind (by_role (role_of name) v now context first second (host_state h [])) (λ r. done (came_of r))

-- its contexts are there, and no more VMs than the worker has
abbrev pub is_at_home : (most place : ℕ) → Contexts → Bool
is_at_home most place h = nat_lt place (length h.vms) && nat_le (length h.vms) most

-- whether a callback runs something: its VM lives, and has a function of the role; what begins a VM is run in any case
abbrev pub has_work : Option VmAt → Option Role → Bool
has_work None r = false
has_work (Some v) None = true
has_work (Some v) (Some r) = is_some (function_for v.functions r)

-- a VM that is no more does nothing
unfoldable pub calling_slot : (most : ℕ) → Option VmAt → Callback → (context first second now : ℕ) → Contexts → Program Came
calling_slot most None name context first second now h = done (silent None h)
calling_slot most (Some v) name context first second now h = if is_at_home most v.calls.place h then calling_live v name context first second now h else done (silent (Some v) h)

abbrev pub with_live : ℕ → Option VmAt → Vms → Vms
with_live vm live v = record v { slots = slice_set v.slots vm (record (slot_in v vm) { live = live }) }

-- THE CALLBACK of a VM, by its number
unfoldable pub calling : Vms → (vm : ℕ) → Callback → (context first second now : ℕ) → Contexts → Program (Called Vms)
calling v vm name context first second now h =
    if nat_lt vm (length v.slots)
    then bind (calling_slot (length v.slots) (slot_in v vm).live name context first second now h) (λ c. done (called_back c.end c.lines (with_live vm c.live v) c.contexts))
    else done (called_back (call_end.Returned None) [] v h)

abbrev pub needs_of : Vms → ℕ
needs_of v = length v.slots
