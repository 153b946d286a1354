-- When nothing of a VM is run.
use Rattle.std.specs.Prelude.{◌≡◌, ℕ, false, [], Option, None, Some}
use Rattle.contexts.specs.declared.parts.Contexts.{Contexts}
use Rattle.filter_host.specs.Called.{Called, called_back}
use Rattle.filter_host.specs.declared.host.CallbackEnd.TheVariants as call_end
use Rattle.filter_host.specs.declared.host.Callback.{Callback}
use Rattle.store_model.specs.Program.{Program, done}
use Rattle.vm_host.specs.declared.roles.Role.{Role}
use Rattle.vm_host.specs.declared.slots.Slot.{Slot}
use Rattle.vm_host.specs.declared.slots.Vms.{Vms}
use Rattle.vm_host.specs.Slots.{slot_in, first_slot, no_slot, role_of, exported_in, calling}
use Rattle.vm_host.specs.Vms.{VmAt}
use Rattle.law_vms.specs.Apart.{AllEnds}
use Rattle.wasm_syntax.specs.declared.module.Module.{Module}

-- nothing is run, asked, written or changed
abbrev pub IsSilent : Vms → Contexts → Program (Called Vms) → Type 0
IsSilent v contexts p = p ≡ done (called_back (call_end.Returned None) [] v contexts)

-- A VM THAT IS NO MORE does nothing; nor does one that is not there
abbrev pub DeadVmsAreSilent : Type 0
DeadVmsAreSilent =
    (v : Vms) (vm : ℕ) (name : Callback) (context first second now : ℕ) (contexts : Contexts) → (slot_in v vm).live ≡ None
    → IsSilent v contexts (calling v vm name context first second now contexts)

-- what says which callbacks are exported is of the module that runs
abbrev pub IsTied : Slot → Option VmAt → Type 0
IsTied slot None = Unit {0}
IsTied slot (Some live) = live.functions ≡ slot.functions

abbrev pub AreTied : Vms → Type 0
AreTied v = (vm : ℕ) → IsTied (slot_in v vm) (slot_in v vm).live

-- A CALLBACK THAT IS NOT EXPORTED does nothing; what begins a VM is none of these
abbrev pub MissingCallbacksAreSilent : Type 0
MissingCallbacksAreSilent =
    (v : Vms) (vm : ℕ) (name : Callback) (role : Role) (context first second now : ℕ) (contexts : Contexts) → AreTied v → role_of name ≡ Some role
    → exported_in v vm name ≡ false → IsSilent v contexts (calling v vm name context first second now contexts)

-- of a VM that begins it is so, and of one that is never started
pub record TiesBegin : Type 0 where
  pub first : (place : ℕ) (m : Module) (pages fuel : ℕ) → IsTied (first_slot place m pages fuel) (first_slot place m pages fuel).live
  pub none : IsTied no_slot no_slot.live

-- and it stays so
abbrev pub TiesStay : Type 0
TiesStay =
    (v : Vms) (vm : ℕ) (name : Callback) (context first second now : ℕ) (contexts : Contexts) → AreTied v
    → AllEnds (λ c. AreTied c.host) (calling v vm name context first second now contexts)
