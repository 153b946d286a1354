-- WHICH VMS ARE MADE WITH THEIR MACHINES: those whose entry of the configuration holds the code of their module.
use Rattle.std.specs.Option.{option_map}
use Rattle.std.specs.Prelude.{◌≡◌, ℕ, true, false, List, [], ◌∷◌, Option, None, Some, is_some, slice_get, codes}
use Rattle.gate_config.specs.declared.entries.VmEntry.{VmEntry}
use Rattle.vm_host.specs.Slots.{slot_in}
use Rattle.vm_host.specs.Vms.{VmAt, first_vm}
use Rattle.law_vms.specs.MadeVms.{made_vms}
use Rattle.wasm_syntax.specs.declared.module.Module.{Module}
use Rattle.law_runs.specs.Denying.{denies}
use Rattle.law_runs.specs.Homes.{HasMachine}

-- the machine of a VM by its entry: that of its module, on which nothing has run, with the pages and the fuel of the entry
abbrev pub machine_for : (vm : ℕ) → Option VmEntry → Option VmAt
machine_for vm None = None
machine_for vm (Some entry) = option_map (λ (m : Module). first_vm vm m entry.pages entry.fuel) entry.code

-- the VMs of a configuration, by their numbers
pub record VmsAreMadeWithMachines : Type 0 where
  -- what stands in the slot of a number, also of one that no VM has
  pub each : (entries : List VmEntry) (vm : ℕ) → (slot_in (made_vms entries) vm).live ≡ machine_for vm (slice_get entries vm)
  -- so a VM has its machine where its entry holds code, and only there
  pub with_code : (entries : List VmEntry) (vm : ℕ) (entry : VmEntry) → slice_get entries vm ≡ Some entry → is_some entry.code ≡ true → HasMachine (made_vms entries) vm
  pub without_code : (entries : List VmEntry) (vm : ℕ) (entry : VmEntry) → slice_get entries vm ≡ Some entry → is_some entry.code ≡ false → HasMachine (made_vms entries) vm → ⊥
  pub beyond : (entries : List VmEntry) (vm : ℕ) → slice_get entries vm ≡ None → HasMachine (made_vms entries) vm → ⊥

-- ---- worked: the VMs of a configuration, of which the second alone holds the code of its module

abbrev pub entry_of : (name : List ℕ) → Option Module → VmEntry
entry_of name code = record { name = name; «module» = codes "deny.wasm"; configuration = []; fuel = 100; pages = 1; code = code }

abbrev pub one_of_two : List VmEntry
one_of_two = entry_of (codes "a") None ∷ entry_of (codes "b") (Some denies) ∷ []

pub record MadeExample : Type 0 where
  pub first : HasMachine (made_vms one_of_two) 0 → ⊥
  pub second : HasMachine (made_vms one_of_two) 1
  pub machine : (slot_in (made_vms one_of_two) 1).live ≡ Some (first_vm 1 denies 1 100)
  pub no_third : HasMachine (made_vms one_of_two) 2 → ⊥
