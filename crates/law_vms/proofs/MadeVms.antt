-- The machines that are made of a configuration stand at their numbers.
use Rattle.std.proofs.Common.{◌≡◌, ℕ, zero, suc, ◌+◌, List, [], ◌∷◌, Option, None, Some, refl, subst, arith, slice_index_or}
use Rattle.gate_config.specs.declared.entries.VmEntry.{VmEntry}
use Rattle.vm_machines.specs.Making.{slot_by, slots_from}
use Rattle.vm_host.specs.Slots.{no_slot}
use Rattle.vm_host.specs.declared.slots.Slot.{Slot}
use Rattle.law_vms.specs.MadeVms.{MadeVmsAreInPlace}
use Rattle.law_vms.specs.OwnChanges.{IsPlaced}
use Rattle.law_vms.specs.Silent.{IsTied}
use Rattle.wasm_syntax.specs.declared.module.Module.{Module}

slot_placed : (place n : ℕ) (o : Option Module) (pages fuel : ℕ) → place ≡ n → IsPlaced n (slot_by place o pages fuel).live
slot_placed place n None pages fuel is = tt
slot_placed place n (Some m) pages fuel is = is

slots_placed : (place : ℕ) (entries : List VmEntry) (n : ℕ) → IsPlaced (place + n) (slice_index_or (slots_from place entries) n no_slot).live
slots_placed place [] n = tt
slots_placed place (e ∷ es) zero = slot_placed place (place + 0) e.code e.pages e.fuel (omega arith)
slots_placed place (e ∷ es) (suc n) =
    subst (λ m. IsPlaced m (slice_index_or (slots_from (place + 1) es) n no_slot).live) (let same : place + 1 + n ≡ place + suc n = omega arith in same) (slots_placed (place + 1) es n)

abbrev HasTie : Slot → Type 0
HasTie slot = IsTied slot slot.live

slot_tied : (place : ℕ) (o : Option Module) (pages fuel : ℕ) → HasTie (slot_by place o pages fuel)
slot_tied place None pages fuel = tt
slot_tied place (Some m) pages fuel = refl

slots_tied : (place : ℕ) (entries : List VmEntry) (n : ℕ) → HasTie (slice_index_or (slots_from place entries) n no_slot)
slots_tied place [] n = tt
slots_tied place (e ∷ es) zero = slot_tied place e.code e.pages e.fuel
slots_tied place (e ∷ es) (suc n) = slots_tied (place + 1) es n

pub in_place : MadeVmsAreInPlace
in_place = record {
  placed = λ entries vm. subst (λ m. IsPlaced m (slice_index_or (slots_from 0 entries) vm no_slot).live) (let same : 0 + vm ≡ vm = omega arith in same) (slots_placed 0 entries vm);
  tied = λ entries vm. slots_tied 0 entries vm;
}
