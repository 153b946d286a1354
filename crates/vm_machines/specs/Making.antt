-- The machines of the VMs of a configuration, on which nothing has run.
use Rattle.std.specs.Prelude.{◌≡◌, ◌≤◌, ◌+◌, ℕ, List, [], ◌∷◌, Option, None, Some}
use Rattle.wasm_syntax.specs.declared.module.Module.{Module}
use Rattle.gate_config.specs.declared.entries.VmEntry.{VmEntry}
use Rattle.vm_host.specs.declared.slots.Slot.{Slot}
use Rattle.vm_host.specs.Fits.{fit_fault}
use Rattle.vm_host.specs.Slots.{first_slot, no_slot}

-- the VM of a number, where it has its module
abbrev pub slot_by : (place : ℕ) → Option Module → (pages fuel : ℕ) → Slot
slot_by place None pages fuel = no_slot
slot_by place (Some m) pages fuel = first_slot place m pages fuel

abbrev pub slot_for : (place : ℕ) → VmEntry → Slot
slot_for place v = slot_by place v.code v.pages v.fuel

-- by number, from this one on
abbrev pub slots_from : (place : ℕ) → List VmEntry → List Slot
slots_from place [] = []
slots_from place (v ∷ vs) = slot_for place v ∷ slots_from (place + 1) vs

abbrev pub FitsBy : Option Module → (pages : ℕ) → Type 0
FitsBy None pages = Unit {0}
FitsBy (Some m) pages = fit_fault m pages ≡ None

-- its module, where it has one, is a filter's with these pages
pub record HasFilter (v : VmEntry) : Type 0 where
  pub fits : FitsBy v.code v.pages
  pub pages : v.pages ≤ 256
