-- Which VMs are made with their machines.
use Rattle.std.proofs.Common.{◌≡◌, ℕ, zero, suc, ◌+◌, List, [], ◌∷◌, Option, None, Some, is_some, refl, ap, ◌∙◌, sym, arith, slice_index_or}
use Rattle.std.proofs.lemmas.Bool.{false≢true}
use Rattle.std.specs.Option.{option_map}
use Rattle.std.specs.Prelude.{slice_get}
use Rattle.gate_config.specs.declared.entries.VmEntry.{VmEntry}
use Rattle.vm_machines.specs.Making.{slot_by, slots_from}
use Rattle.vm_host.specs.Slots.{slot_in, no_slot}
use Rattle.vm_host.specs.Vms.{VmAt, first_vm}
use Rattle.law_vms.specs.MadeVms.{made_vms}
use Rattle.wasm_syntax.specs.declared.module.Module.{Module}
use Rattle.law_runs.specs.Made.{machine_for, VmsAreMadeWithMachines, MadeExample}

slot_live : (place : ℕ) (o : Option Module) (pages fuel : ℕ) → (slot_by place o pages fuel).live ≡ option_map (λ (m : Module). first_vm place m pages fuel) o
slot_live place None pages fuel = refl
slot_live place (Some m) pages fuel = refl

live_from : (place : ℕ) (entries : List VmEntry) (n : ℕ) → (slice_index_or (slots_from place entries) n no_slot).live ≡ machine_for (place + n) (slice_get entries n)
live_from place [] n = refl
live_from place (e ∷ es) zero =
    let same : place ≡ place + 0 = omega arith in
    slot_live place e.code e.pages e.fuel ∙ ap (λ (p : ℕ). machine_for p (Some e)) same
live_from place (e ∷ es) (suc n) =
    let same : place + 1 + n ≡ place + suc n = omega arith in
    live_from (place + 1) es n ∙ ap (λ (p : ℕ). machine_for p (slice_get es n)) same

each : (entries : List VmEntry) (vm : ℕ) → (slot_in (made_vms entries) vm).live ≡ machine_for vm (slice_get entries vm)
each entries vm =
    let same : 0 + vm ≡ vm = omega arith in
    live_from 0 entries vm ∙ ap (λ (p : ℕ). machine_for p (slice_get entries vm)) same

has_by_code : (vm pages fuel : ℕ) (o : Option Module) → is_some (option_map (λ (m : Module). first_vm vm m pages fuel) o) ≡ is_some o
has_by_code vm pages fuel None = refl
has_by_code vm pages fuel (Some m) = refl

-- whether a machine stands there is whether its entry is one
has : (entries : List VmEntry) (vm : ℕ) (o : Option VmEntry) → slice_get entries vm ≡ o → is_some (slot_in (made_vms entries) vm).live ≡ is_some (machine_for vm o)
has entries vm o is = ap (λ (l : Option VmAt). is_some l) (each entries vm) ∙ ap (λ (x : Option VmEntry). is_some (machine_for vm x)) is

has_code : (entries : List VmEntry) (vm : ℕ) (entry : VmEntry) → slice_get entries vm ≡ Some entry → is_some (slot_in (made_vms entries) vm).live ≡ is_some entry.code
has_code entries vm entry is = has entries vm (Some entry) is ∙ has_by_code vm entry.pages entry.fuel entry.code

pub vms_are_made_with_machines : VmsAreMadeWithMachines
vms_are_made_with_machines = record {
  each = each;
  with_code = λ entries vm entry is code. has_code entries vm entry is ∙ code;
  without_code = λ entries vm entry is none machine. false≢true (sym none ∙ (sym (has_code entries vm entry is) ∙ machine));
  beyond = λ entries vm is machine. false≢true (sym (has entries vm None is) ∙ machine);
}

pub made_example : MadeExample
made_example = record {
  first = λ machine. false≢true machine;
  second = refl;
  machine = refl;
  no_third = λ machine. false≢true machine;
}
