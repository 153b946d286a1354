use Rattle.std.proofs.Common.{ℕ, Option, sym, ap, ◌∙◌, subst}
use Rattle.wasm_machine.specs.Machines.{program_at}
use Rattle.vm_host.specs.RoleTypes.{beginner_in, TakesNothing}
use Rattle.vm_host.specs.Vms.{VmAt}
use Rattle.vm_host.specs.declared.vm.Parts.{Parts}
use Rattle.vm_host.proofs.RoleTies.{beginner_takes}
use Rattle.vm_host.proofs.vm.Vm.begin_further.Goals as goal

pub run_if-requires-clause-takes : goal.run_if-requires-clause-takes
run_if-requires-clause-takes g c =
    let p = program_at c.self.inside.parts.value.guest.machine in
    subst (λ (v : VmAt). TakesNothing v.guest.program c.beginner-func.result) c.self.view_is
    (subst (λ (o : Option ℕ). TakesNothing p o) (sym (c.beginner-func.ensures ∙ ap beginner_in (c.as_slice.ensures ∙ ap (λ (x : Parts). x.functions) c.deref.ensures))) (beginner_takes p c.self.inside.parts.value.functions c.self.invariant.typed))
