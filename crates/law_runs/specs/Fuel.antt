-- WITH WHICH FUEL AND WHICH PAGES a VM runs: those of its entry of the configuration, in each run of its own.
use Rattle.std.specs.Prelude.{◌≡◌, ℕ, pos, zero, suc, List, [], ◌∷◌, Option, None, Some, is_some, slice_get, codes, Bool, true, false}
use Rattle.contexts.specs.declared.parts.Contexts.{Contexts}
use Rattle.filter_host.specs.Called.{Called}
use Rattle.filter_host.specs.declared.host.CallbackEnd.{CallbackEnd}
use Rattle.filter_host.specs.declared.host.CallbackEnd.TheVariants as call_end
use Rattle.filter_host.specs.declared.host.Callback.{Callback}
use Rattle.filter_host.specs.declared.host.Callback.TheVariants as callbacks
use Rattle.filter_host.specs.declared.host.Death.TheVariants as death
use Rattle.gate_base.specs.declared.cause.Cause.TheVariants as cause
use Rattle.gate_config.specs.declared.config.Config.{Config}
use Rattle.gate_config.specs.declared.entries.VmEntry.{VmEntry}
use Rattle.store_model.specs.Program.{Program, done, bind}
use Rattle.vm_host.specs.Calling.{calling_back}
use Rattle.vm_host.specs.Dispatching.{dispatching}
use Rattle.vm_host.specs.HostStates.{HostState, host_state}
use Rattle.vm_host.specs.RoleTypes.{functions_for, beginner_in, numbers_for, counts_at}
use Rattle.vm_host.specs.Slots.{slot_in, calling}
use Rattle.vm_host.specs.Targets.{targets_of}
use Rattle.vm_host.specs.Vms.{VmAt, Ran, ran, ran_as}
use Rattle.vm_host.specs.declared.ended.LastRunEnd.TheVariants as ended
use Rattle.vm_host.specs.declared.slots.Vms.{Vms}
use Rattle.law_vms.specs.Lives.{Lives, Goes}
use Rattle.law_vms.specs.MadeVms.{made_vms}
use Rattle.wasm_syntax.specs.Grammar.{empty_module}
use Rattle.wasm_syntax.specs.ReductionPrograms.{program_of, first_config}
use Rattle.wasm_syntax.specs.declared.instr.Instr.{Instr}
use Rattle.wasm_syntax.specs.declared.instr.Instr.TheVariants as instr
use Rattle.wasm_syntax.specs.declared.module.ExportKind.TheVariants as exported
use Rattle.wasm_syntax.specs.declared.module.Module.{Module}
use Rattle.wasm_syntax.specs.declared.types.Value.{Value}
use Rattle.worker_model.specs.Plan.{Plan}
use Rattle.worker_model.specs.Steps.{Both}
use Rattle.law_runs.specs.Denying.{nothing_to_nothing, at_home}
use Rattle.law_runs.specs.Homes.{made_worker}
use Rattle.law_runs.specs.Made.{entry_of}
use Rattle.law_runs.specs.Runs.{IsLive, AreAtHome, HasFunction, begins_with, comes_back}

-- ---- a VM of an entry

-- its machine runs the program of the module with so many pages at most; its imports stand for the host calls that the module names; it has the functions and
-- the start function of the module, and so much fuel
pub record IsBound (vm : ℕ) (m : Module) (pages fuel : ℕ) (live : VmAt) : Type 0 where
  pub program : live.guest.program ≡ program_of m pages
  pub place : live.calls.place ≡ vm
  pub targets : live.calls.targets ≡ targets_of m.imports
  pub functions : live.functions ≡ functions_for m.exports
  pub start : live.start ≡ m.start
  pub budget : live.budget ≡ fuel

-- where a machine is left
abbrev pub MayBeBound : (vm : ℕ) → Module → (pages fuel : ℕ) → Option VmAt → Type 0
MayBeBound vm m pages fuel None = Unit {0}
MayBeBound vm m pages fuel (Some live) = IsBound vm m pages fuel live

-- an entry that holds the code of its module
pub record HasEntry (entries : List VmEntry) (vm : ℕ) (entry : VmEntry) (m : Module) : Type 0 where
  pub stands : slice_get entries vm ≡ Some entry
  pub code : entry.code ≡ Some m

-- as it is made, nothing has run on it
pub record IsMade (entries : List VmEntry) (vm : ℕ) (entry : VmEntry) (m : Module) : Type 0 where
  pub live : VmAt
  pub stands : (slot_in (made_vms entries) vm).live ≡ Some live
  pub config : live.guest.config ≡ first_config m
  pub bound : IsBound vm m entry.pages entry.fuel live

-- ---- its runs, each with so much fuel of its own

abbrev pub run_with : (fuel : ℕ) → VmAt → (now f : ℕ) → List Value → HostState → Program Ran
run_with fuel v now f args s = bind (calling_back (dispatching v.calls now) f args (record v.guest { fuel = fuel }) s) (λ r. done (ran_as v s r))

-- of a function that takes nothing, where there is one
abbrev pub run_where : (fuel : ℕ) → VmAt → (now : ℕ) → Option ℕ → HostState → Program Ran
run_where fuel v now None s = done (ran (ended.Returned None) (Some v) s)
run_where fuel v now (Some f) s = run_with fuel v now f [] s

-- `_initialize` or else `_start`, of what the start function left
abbrev pub then_begun : (fuel now : ℕ) → Option VmAt → Ran → Program Ran
then_begun fuel now None r = done r
then_begun fuel now (Some v) r = run_where fuel v now (beginner_in v.functions) r.state

-- the start function of the module, and then that one
abbrev pub begun_with : (fuel : ℕ) → VmAt → (now : ℕ) → HostState → Program Ran
begun_with fuel v now s = bind (run_where fuel v now v.start s) (λ r. then_begun fuel now r.vm r)

-- EACH RUN HAS THE FUEL OF THE ENTRY, and the machine its pages
pub record RunsHaveTheirFuel : Type 0 where
  pub made_so : (entries : List VmEntry) (vm : ℕ) (entry : VmEntry) (m : Module) → HasEntry entries vm entry m → IsMade entries vm entry m
  -- over the life of a worker that was made of a configuration
  pub turns : (config : Config) (who : ℕ) (seed : List ℕ) (plan : Plan) (e : Both Vms) (vm : ℕ) (entry : VmEntry) (m : Module)
      → Lives plan (made_worker config who seed) e → HasEntry config.vms vm entry m → MayBeBound vm m entry.pages entry.fuel (slot_in e.host vm).live
  pub steps : (config : Config) (who : ℕ) (seed : List ℕ) (plan : Plan) (e : Both Vms) (vm : ℕ) (entry : VmEntry) (m : Module)
      → Goes plan (made_worker config who seed) e → HasEntry config.vms vm entry m → MayBeBound vm m entry.pages entry.fuel (slot_in e.host vm).live
  -- a callback of such a VM
  pub calls : (v : Vms) (vm : ℕ) (m : Module) (pages fuel : ℕ) (live : VmAt) (name : Callback) (context first second now : ℕ) (h : Contexts)
      → IsLive v vm live → AreAtHome v h → IsBound vm m pages fuel live → (f : HasFunction live name)
      → calling v vm name context first second now h ≡
      bind (run_with fuel live now f.number (numbers_for f.role context first second (counts_at live.calls.place context h)) (begins_with live context h)) (λ r. done (comes_back v vm r))
  -- and what begins it
  pub begins : (v : Vms) (vm : ℕ) (m : Module) (pages fuel : ℕ) (live : VmAt) (context first second now : ℕ) (h : Contexts)
      → IsLive v vm live → AreAtHome v h → IsBound vm m pages fuel live
      → calling v vm callbacks.Begin context first second now h ≡ bind (begun_with fuel live now (host_state h [])) (λ r. done (comes_back v vm r))

-- ---- worked: modules whose start function and `_initialize` spend so much, of an entry with so much fuel

-- two units, so many times
abbrev pub spends : ℕ → List Instr
spends zero = instr.End ∷ []
spends (suc n) = instr.I32Const (pos 1) ∷ instr.Drop ∷ spends n

-- function 0 is the start function, and function 1 is exported
abbrev pub starting : (name : List ℕ) → (start begin : List Instr) → Module
starting name start begin = record empty_module {
  types = nothing_to_nothing ∷ [];
  functions = 0 ∷ 0 ∷ [];
  memories = record { minimum = 0; maximum = None } ∷ [];
  exports = record { name = name; kind = exported.Function 1 } ∷ [];
  start = Some 0;
  codes = record { locals = []; body = start } ∷ record { locals = []; body = begin } ∷ [];
}

-- a VM of that module, with so much fuel and so many pages, is begun
abbrev pub begun : Module → (fuel pages : ℕ) → Program (Called Vms)
begun m fuel pages = calling (made_vms (record (entry_of (codes "v") (Some m)) { fuel = fuel; pages = pages } ∷ [])) 0 callbacks.Begin 0 0 0 0 at_home

abbrev pub initializes : (start begin fuel : ℕ) → Program (Called Vms)
initializes start begin fuel = begun (starting (codes "_initialize") (spends start) (spends begin)) fuel 1

-- the start function asks for two pages more of a memory that has none, and divides by the answer: by 4,294,967,295 where there are none to be had, and
-- else by 0, how many there were
abbrev pub grows : List Instr
grows = instr.I32Const (pos 1) ∷ instr.I32Const (pos 2) ∷ instr.MemoryGrow ∷ instr.I32DivU ∷ instr.Drop ∷ instr.End ∷ []

abbrev pub growing : (pages : ℕ) → Program (Called Vms)
growing pages = begun (starting (codes "_initialize") grows (spends 0)) 100 pages

-- how it ended, and whether a machine is left
pub record EndsSo (p : Program (Called Vms)) (end : CallbackEnd) (left : Bool) : Type 0 where
  pub called : Called Vms
  pub is : p ≡ done called
  pub ends : called.end ≡ end
  pub machine : is_some (slot_in called.host 0).live ≡ left

pub record FuelExamples : Type 0 where
  -- two units and four: each of the two functions has four of its own
  pub each_its_own : EndsSo (initializes 1 2 4) (call_end.Returned None) true
  pub in_start : EndsSo (initializes 2 1 3) (call_end.Died death.FuelSpent) false
  pub in_initialize : EndsSo (initializes 1 2 3) (call_end.Died death.FuelSpent) false
  pub by_start_name : EndsSo (begun (starting (codes "_start") (spends 1) (spends 2)) 3 1) (call_end.Died death.FuelSpent) false
  pub other_name : EndsSo (begun (starting (codes "begin") (spends 1) (spends 2)) 3 1) (call_end.Returned None) true
  -- with a page at most no two are had, and with two they are
  pub one_page : EndsSo (growing 1) (call_end.Returned None) true
  pub two_pages : EndsSo (growing 2) (call_end.Died (death.Trapped cause.Divide)) false
