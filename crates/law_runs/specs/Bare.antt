-- A WORKER WHOSE MACHINES ARE NEVER PASSED OVER: its steps and its turns are those of the worker.
use Rattle.std.specs.Prelude.{◌≡◌, ℕ, List, [], Option, None, Some}
use Rattle.contexts.specs.declared.parts.Contexts.{Contexts}
use Rattle.filter_host.specs.Called.{Called, Calling, called_back}
use Rattle.filter_host.specs.declared.host.CallbackEnd.TheVariants as call_end
use Rattle.filter_host.specs.declared.host.Callback.{Callback}
use Rattle.gate_config.specs.declared.config.Config.{Config}
use Rattle.gate_io.specs.declared.event.Event.{Event}
use Rattle.store_model.specs.Program.{Program, done}
use Rattle.vm_host.specs.Slots.{slot_in, calling}
use Rattle.vm_host.specs.Vms.{VmAt}
use Rattle.vm_host.specs.declared.slots.Vms.{Vms}
use Rattle.law_vms.specs.Lives.{Lives, Goes}
use Rattle.worker_model.specs.Plan.{Plan}
use Rattle.worker_model.specs.Rooms.{next_of}
use Rattle.worker_model.specs.Steps.{Both, step}
use Rattle.worker_model.specs.Turn.{turn}
use Rattle.law_runs.specs.Homes.{made_worker, IsHome}
use Rattle.law_runs.specs.Runs.{run_for}

-- a machine that stands there is run; where none stands nothing is done
abbrev pub run_if : Vms → (vm : ℕ) → Option VmAt → Callback → (context first second now : ℕ) → Contexts → Program (Called Vms)
run_if v vm None name context first second now h = done (called_back (call_end.Returned None) [] v h)
run_if v vm (Some live) name context first second now h = run_for v vm live name context first second now h

-- THE CALLBACK with no test in front of it: neither of the VM's number nor of its contexts
abbrev pub always : Calling Vms
always v vm name context first second now h = run_if v vm (slot_in v vm).live name context first second now h

-- Where the machines and the contexts are at home, each step and each turn is the same with the one as with the other: whatever a worker asks of a machine that
-- stands there is run, in the middle of a step too.
pub record RunsAllItAsks : Type 0 where
  pub each_step : (plan : Plan) (b : Both Vms) → IsHome b → step calling plan (next_of b.room) b.host b.room ≡ step always plan (next_of b.room) b.host b.room
  pub each_turn : (plan : Plan) (b : Both Vms) (event : Event) → IsHome b → turn calling plan b event ≡ turn always plan b event
  -- and so in every state of a worker that was made of a configuration
  pub steps : (config : Config) (who : ℕ) (seed : List ℕ) (plan : Plan) (e : Both Vms) → Goes plan (made_worker config who seed) e
      → step calling plan (next_of e.room) e.host e.room ≡ step always plan (next_of e.room) e.host e.room
  pub turns : (config : Config) (who : ℕ) (seed : List ℕ) (plan : Plan) (e : Both Vms) (event : Event) → Lives plan (made_worker config who seed) e
      → turn calling plan e event ≡ turn always plan e event
