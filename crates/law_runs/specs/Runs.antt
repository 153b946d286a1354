-- A CALLBACK THAT IS ASKED IS RUN.
use Rattle.std.specs.Prelude.{◌≡◌, ℕ, true, [], length, Some}
use Rattle.contexts.specs.declared.parts.Contexts.{Contexts}
use Rattle.filter_host.specs.Called.{Called, called_back}
use Rattle.filter_host.specs.declared.host.Callback.{Callback}
use Rattle.store_model.specs.Program.{Program, done, bind}
use Rattle.vm_host.specs.Calling.{calling_back}
use Rattle.vm_host.specs.Dispatching.{dispatching}
use Rattle.vm_host.specs.HostStates.{HostState, host_state}
use Rattle.vm_host.specs.RoleTypes.{function_for, numbers_for, counts_at}
use Rattle.vm_host.specs.Slots.{slot_in, with_live, end_of, role_of, by_role, exported_in, calling}
use Rattle.vm_host.specs.Vms.{VmAt, Ran, ran_as, with_budget, made_effective}
use Rattle.vm_host.specs.declared.roles.Role.{Role}
use Rattle.vm_host.specs.declared.slots.Vms.{Vms}
use Rattle.law_vms.specs.Silent.{AreTied}

-- a machine stands in the slot of a VM, at the number of its contexts
pub record IsLive (v : Vms) (vm : ℕ) (live : VmAt) : Type 0 where
  pub stands : (slot_in v vm).live ≡ Some live
  pub place : live.calls.place ≡ vm

-- there are contexts for each slot, and for no VM more
abbrev pub AreAtHome : Vms → Contexts → Type 0
AreAtHome v h = length h.vms ≡ length v.slots

-- how a run ended is how the callback ended; what it wrote, what is left of the machine, and what the contexts are then
abbrev pub comes_back : Vms → (vm : ℕ) → Ran → Called Vms
comes_back v vm r = called_back (end_of r.end) r.state.lines (with_live vm r.vm v) r.state.contexts

-- THE RUN of a machine for a callback, and nothing else: here is no case in which it is passed over
abbrev pub run_for : Vms → (vm : ℕ) → VmAt → Callback → (context first second now : ℕ) → Contexts → Program (Called Vms)
run_for v vm live name context first second now h = bind (by_role (role_of name) live now context first second (host_state h [])) (λ r. done (comes_back v vm r))

-- what host calls begin with: the callback's own context is the effective one
abbrev pub begins_with : VmAt → (context : ℕ) → Contexts → HostState
begins_with live context h = host_state (made_effective live.calls.place context h) []

-- THE RUN of one function of the machine, with the whole fuel of a run and as many numbers as its role takes
abbrev pub run_of : Vms → (vm : ℕ) → VmAt → Role → (f context first second now : ℕ) → Contexts → Program (Called Vms)
run_of v vm live r f context first second now h =
    bind (calling_back (dispatching live.calls now) f (numbers_for r context first second (counts_at live.calls.place context h)) (with_budget live) (begins_with live context h))
    (λ x. done (comes_back v vm (ran_as live (begins_with live context h) x)))

-- the function of a callback that the module of a machine exports
pub record HasFunction (live : VmAt) (name : Callback) : Type 0 where
  pub role : Role
  pub is : role_of name ≡ Some role
  pub number : ℕ
  pub stands : function_for live.functions role ≡ Some number

-- A callback of a VM whose machine lives, at home, is its run: of what begins a VM, of all that does; and of each other callback that the module exports, of
-- the function that it exports for it.
pub record RunsWhatIsAsked : Type 0 where
  pub whole : (v : Vms) (vm : ℕ) (live : VmAt) (name : Callback) (context first second now : ℕ) (h : Contexts) → IsLive v vm live → AreAtHome v h
      → calling v vm name context first second now h ≡ run_for v vm live name context first second now h
  pub function : (v : Vms) (vm : ℕ) (live : VmAt) (name : Callback) (context first second now : ℕ) (h : Contexts) → IsLive v vm live → AreAtHome v h
      → (f : HasFunction live name) → calling v vm name context first second now h ≡ run_of v vm live f.role f.number context first second now h
  -- where what is known of the module is of the machine, each callback that is said to be exported has its function
  pub exported : (v : Vms) (vm : ℕ) (live : VmAt) (name : Callback) → IsLive v vm live → AreTied v → exported_in v vm name ≡ true → HasFunction live name
