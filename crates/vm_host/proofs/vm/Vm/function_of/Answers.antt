use Rattle.std.proofs.Common.{◌≡◌, ℕ, List, Option, None, Some, sym, ◌∙◌, ap, subst}
use Rattle.std.specs.Prelude.{IfSome}
use Rattle.wasm_syntax.specs.Reduction.{Program}
use Rattle.wasm_machine.specs.Machines.{program_at}
use Rattle.vm_host.specs.declared.roles.Role.{Role}
use Rattle.vm_host.specs.RoleTypes.{function_for, HasRole, AreFunctions}
use Rattle.vm_host.specs.Vms.{VmAt}
use Rattle.vm_host.specs.declared.vm.Parts.{Parts}
use Rattle.vm_host.proofs.vm.Vm.function_of.Goals as goal

has_role : (p : Program) (functions : List (Option ℕ)) (r : Role) → AreFunctions p functions → (o : Option ℕ) → o ≡ function_for functions r → IfSome o (HasRole p r)
has_role p functions r are None is = tt
has_role p functions r are (Some f) is = are r f (sym is)

pub returns-clause-typed : goal.returns-clause-typed
returns-clause-typed c =
    let p = program_at c.self.inside.parts.value.guest.machine in
    subst (λ (v : VmAt). IfSome c.function.result (HasRole v.guest.program c.args.role)) c.self.view_is
    (has_role p c.self.inside.parts.value.functions c.args.role c.self.invariant.typed c.function.result (c.function.ensures ∙ ap (λ (fs : List (Option ℕ)). function_for fs c.args.role) (c.as_slice.ensures ∙ ap (λ (x : Parts). x.functions) c.deref.ensures)))
