-- There is a slot for each VM.
use Rattle.std.proofs.Common.{◌≡◌, ◌≤◌, ℕ, ◌+◌, suc, List, [], ◌∷◌, length, Result, Ok, Err, IfOk, refl, ap, ◌∙◌, arith}
use Rattle.gate_config.specs.declared.entries.VmEntry.{VmEntry}
use Rattle.vm_host.specs.Slots.{needs_of}
use Rattle.vm_host.specs.declared.slots.Vms.{Vms}
use Rattle.vm_machines.specs.Making.{slots_from}

slots_count : (place : ℕ) (vms : List VmEntry) → length (slots_from place vms) ≡ length vms
slots_count place [] = refl
slots_count place (v ∷ vms) = ap suc (slots_count (place + 1) vms)

-- made machines use no store but those of the VMs
pub uses_its_own : {E : Type 0} (r : Result Vms E) (vms : List VmEntry) → IfOk r (λ all. all.slots ≡ slots_from 0 vms) → IfOk r (λ all. needs_of all ≤ length vms)
uses_its_own (Ok all) vms is = let count = ap length is ∙ slots_count 0 vms in omega (arith, count)
uses_its_own (Err e) vms is = tt
