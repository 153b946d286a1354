-- The machine of a VM, and what its callbacks do.
use Rattle.std.specs.Prelude.{◌≡◌, ℕ, if◌then◌else◌, List, [], length, Option, None, Some}
use Rattle.wasm_syntax.specs.declared.types.Value.{Value}
use Rattle.wasm_syntax.specs.declared.types.Value.TheVariants.{I32, I64}
use Rattle.wasm_syntax.specs.declared.module.Module.{Module}
use Rattle.wasm_syntax.specs.ReductionPrograms.{program_of, first_config}
use Rattle.wasm_machine.specs.Machines.{View, program_at, config_at}
use Rattle.wasm_machine.specs.declared.machine.Mode.TheVariants as mode
use Rattle.abi_links.specs.declared.target.ImportTarget.{ImportTarget}
use Rattle.abi_types.specs.declared.guest.Closing.{Closing}
use Rattle.store_model.specs.Program.{Program, done, bind}
use Rattle.contexts.specs.Reached.{seen, contains, put, no_changes}
use Rattle.contexts.specs.declared.parts.Contexts.{Contexts}
use Rattle.abi_types.specs.GuestAt.{GuestAt}
use Rattle.vm_host.specs.declared.machine_guest.MachineGuest.{MachineGuest}
use Rattle.vm_host.specs.declared.dispatch.Dispatcher.{Dispatcher}
use Rattle.vm_host.specs.declared.roles.Role.{Role}
use Rattle.vm_host.specs.declared.ended.LastRunEnd.{LastRunEnd}
use Rattle.vm_host.specs.declared.ended.LastRunEnd.TheVariants as ended
use Rattle.vm_host.specs.Seeing.{RestsAt}
use Rattle.vm_host.specs.HostStates.{HostState, host_state}
use Rattle.vm_host.specs.Calling.{Returned, returned, run_trapped, run_spent, run_open, calling_back}
use Rattle.vm_host.specs.Targets.{targets_of, closings_of}
use Rattle.vm_host.specs.RoleTypes.{functions_for, function_for, allocator_in, beginner_in, AreFunctions, numbers_for, counts_at, TakesNothing}
use Rattle.vm_host.specs.Dispatching.{dispatching, LinksTo}

-- A VM that lives: its guest, which rests; the calls of its host; the functions that it exports, by their roles; the start function of
-- its module; and the fuel of each run.
pub record VmAt : Type 0 where
  pub guest : GuestAt
  pub calls : Dispatcher
  pub functions : List (Option ℕ)
  pub start : Option ℕ
  pub budget : ℕ

-- what the machine of a VM keeps
pub record IsVm (guest : MachineGuest) (calls : Dispatcher) (functions : List (Option ℕ)) (start : Option ℕ) : Type 0 where
  pub rests : RestsAt guest
  pub idle : guest.machine.pending ≡ []
  pub links : LinksTo calls (program_at guest.machine)
  pub start_takes : TakesNothing (program_at guest.machine) start
  pub count : length functions ≡ 24
  pub typed : AreFunctions (program_at guest.machine) functions

-- ---- THE FIRST ONE: the instance of a module, on which nothing has run
abbrev pub first_guest : Module → (pages fuel : ℕ) → GuestAt
first_guest m pages fuel = record {
  program = program_of m pages;
  allocator = allocator_in (functions_for m.exports);
  closed = closings_of (targets_of m.imports);
  config = first_config m;
  waiting = [];
  fuel = fuel;
}

abbrev pub first_vm : (place : ℕ) → Module → (pages fuel : ℕ) → VmAt
first_vm place m pages fuel = record {
  guest = first_guest m pages fuel;
  calls = record { place = place; targets = targets_of m.imports };
  functions = functions_for m.exports;
  start = m.start;
  budget = fuel;
}

-- the machine on which nothing has run
pub record IsFirst (m : Module) (pages : ℕ) (v : View) : Type 0 where
  pub program : program_at v ≡ program_of m pages
  pub config : config_at v ≡ first_config m
  pub pending : v.pending ≡ []
  pub mode : v.mode ≡ mode.Resting

-- what a module tells of its calls
pub record IsOutline (m : Module) (targets : List ImportTarget) (closed : List Closing) (functions : List (Option ℕ)) (start : Option ℕ) : Type 0 where
  pub targets_are : targets ≡ targets_of m.imports
  pub closed_are : closed ≡ closings_of (targets_of m.imports)
  pub functions_are : functions ≡ functions_for m.exports
  pub start_is : start ≡ m.start

-- ---- a run

-- what has become of a VM: none is left of one that trapped or spent its fuel
pub record Ran : Type 0 where
  pub end : LastRunEnd
  pub vm : Option VmAt
  pub state : HostState

abbrev pub ran : LastRunEnd → Option VmAt → HostState → Ran
ran end vm state = record { end = end; vm = vm; state = state }

-- a number of 32 bits that was returned
abbrev pub number_of : Option Value → Option ℕ
number_of (Some (I32 n)) = Some n
number_of (Some (I64 n)) = None
number_of None = None

abbrev pub with_budget : VmAt → GuestAt
with_budget v = record v.guest { fuel = v.budget }

abbrev pub ran_as : VmAt → HostState → Returned HostState → Ran
ran_as v s (returned x g h) = ran (ended.Returned (number_of x)) (Some (record v { guest = g })) h
ran_as v s (run_trapped c n h) = ran (ended.Trapped c) None h
ran_as v s (run_spent n h) = ran ended.FuelSpent None h
-- a run always comes to its end
ran_as v s run_open = ran ended.FuelSpent None s

-- A function, with the whole budget
unfoldable pub running : VmAt → (now : ℕ) → ℕ → List Value → HostState → Program Ran
running v now f args s = bind (calling_back (dispatching v.calls now) f args (with_budget v) s) (λ r. done (ran_as v s r))

-- the same, where there is one
abbrev pub running_if : VmAt → (now : ℕ) → Option ℕ → List Value → HostState → Program Ran
running_if v now None args s = done (ran (ended.Returned None) (Some v) s)
running_if v now (Some f) args s = running v now f args s

-- ---- what is called

-- the function that begins, where the start function has left the VM alive
abbrev pub begins_then : (now : ℕ) → Option VmAt → Ran → Program Ran
begins_then now None r = done r
begins_then now (Some v) r = running_if v now (beginner_in v.functions) [] r.state

-- the start function of the module, and then `_initialize` or else `_start`
abbrev pub beginning : VmAt → (now : ℕ) → HostState → Program Ran
beginning v now s = bind (running_if v now v.start [] s) (λ r. begins_then now r.vm r)

-- its own context is made the effective one, where the VM has it
abbrev pub made_effective : (place context : ℕ) → Contexts → Contexts
made_effective place context h = if contains context (seen h place).common.ids then put (record no_changes { effective = Some context }) place h else h

abbrev pub calling_if : VmAt → (now : ℕ) → Option ℕ → Role → (context first second : ℕ) → HostState → Program Ran
calling_if v now None r context first second s = done (ran (ended.Returned None) (Some v) s)
calling_if v now (Some f) r context first second s = running v now f (numbers_for r context first second (counts_at v.calls.place context s.contexts)) (host_state (made_effective v.calls.place context s.contexts) s.lines)

-- THE CALLBACK of a role, by its context, two numbers more, and the counts of what came back for its callout: it is given as many of them as it has
-- parameters. One that is not exported does nothing.
abbrev pub calling_role : VmAt → (now : ℕ) → Role → (context first second : ℕ) → HostState → Program Ran
calling_role v now r context first second s = calling_if v now (function_for v.functions r) r context first second s
