-- AT HOME over the whole life of a worker whose lines are HTTP: there are contexts for each of its machines, and a machine for each VM that has contexts.
use Rattle.std.specs.Prelude.{◌≡◌, ℕ, true, false, List, length, is_some}
use Rattle.contexts.specs.declared.parts.Contexts.{Contexts}
use Rattle.filter_host.specs.declared.host.Callback.{Callback}
use Rattle.gate_config.specs.declared.config.Config.{Config}
use Rattle.vm_host.specs.Slots.{slot_in, exported_in, registering_in, calling}
use Rattle.vm_host.specs.Vms.{VmAt}
use Rattle.vm_host.specs.declared.slots.Vms.{Vms}
use Rattle.law_vms.specs.Lives.{Lives, Goes}
use Rattle.law_vms.specs.MadeVms.{made_vms}
use Rattle.law_vms.specs.OwnChanges.{ArePlaced}
use Rattle.worker_model.specs.Making.{new_worker}
use Rattle.worker_model.specs.Plan.{Plan}
use Rattle.worker_model.specs.Rooms.{is_dead}
use Rattle.worker_model.specs.Steps.{Both}
use Rattle.law_runs.specs.Runs.{IsLive, AreAtHome, run_for, run_of, HasFunction}

-- the machines and the room of a worker as it is made, with the machines of its configuration
abbrev pub made_worker : Config → (who : ℕ) → (seed : List ℕ) → Both Vms
made_worker config who seed = (new_worker exported_in registering_in config who seed (made_vms config.vms)).state

-- each machine stands at the number of its contexts, and there are contexts for each slot and for no VM more
pub record IsHome (b : Both Vms) : Type 0 where
  pub placed : ArePlaced b.host
  pub contexts : AreAtHome b.host b.room.hub.contexts

-- so a worker begins
abbrev pub BeginsAtHome : Type 0
BeginsAtHome = (config : Config) (who : ℕ) (seed : List ℕ) → IsHome (made_worker config who seed)

-- and so it stays, step by step and turn by turn, whatever its modules do, its stores reply and its lines bring
pub record StaysAtHome : Type 0 where
  pub steps : (plan : Plan) (b e : Both Vms) → Goes plan b e → IsHome b → IsHome e
  pub turns : (plan : Plan) (b e : Both Vms) → Lives plan b e → IsHome b → IsHome e

-- ---- A LIVE VM KEEPS ITS MACHINE

-- a machine stands in the slot
abbrev pub HasMachine : Vms → (vm : ℕ) → Type 0
HasMachine v vm = is_some (slot_in v vm).live ≡ true

-- A VM that had its machine, and that the worker does not hold for dead, has it.
pub record LiveVmsKeepMachines : Type 0 where
  pub steps : (plan : Plan) (b e : Both Vms) (vm : ℕ) → Goes plan b e → IsHome b → HasMachine b.host vm → is_dead vm e.room ≡ false → (live : VmAt) × IsLive e.host vm live
  pub turns : (plan : Plan) (b e : Both Vms) (vm : ℕ) → Lives plan b e → IsHome b → HasMachine b.host vm → is_dead vm e.room ≡ false → (live : VmAt) × IsLive e.host vm live

-- ---- WHAT IS ASKED OVER A LIFE IS RUN

-- a callback of a VM, in a state, with contexts of as many VMs as the room's: it is the run of the machine that stands there, of the function that the
-- module exports for it
pub record IsRun (e : Both Vms) (vm : ℕ) (name : Callback) (context first second now : ℕ) (h : Contexts) : Type 0 where
  pub live : VmAt
  pub is : IsLive e.host vm live
  pub whole : calling e.host vm name context first second now h ≡ run_for e.host vm live name context first second now h
  pub function : exported_in e.host vm name ≡ true
      → (f : HasFunction live name) × (calling e.host vm name context first second now h ≡ run_of e.host vm live f.role f.number context first second now h)

-- From a worker that was made of a configuration: whatever steps and turns there were, each callback of a VM that was made with its machine and is not held
-- for dead is run.
pub record RunsOverLives : Type 0 where
  pub steps : (config : Config) (who : ℕ) (seed : List ℕ) (plan : Plan) (e : Both Vms) (vm : ℕ) (name : Callback) (context first second now : ℕ) (h : Contexts)
      → Goes plan (made_worker config who seed) e → HasMachine (made_vms config.vms) vm → is_dead vm e.room ≡ false → length h.vms ≡ length e.room.hub.contexts.vms
      → IsRun e vm name context first second now h
  pub turns : (config : Config) (who : ℕ) (seed : List ℕ) (plan : Plan) (e : Both Vms) (vm : ℕ) (name : Callback) (context first second now : ℕ) (h : Contexts)
      → Lives plan (made_worker config who seed) e → HasMachine (made_vms config.vms) vm → is_dead vm e.room ≡ false → length h.vms ≡ length e.room.hub.contexts.vms
      → IsRun e vm name context first second now h
