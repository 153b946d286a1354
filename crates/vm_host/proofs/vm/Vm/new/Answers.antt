use Rattle.std.proofs.Common.{◌∙◌, ap, subst}
use Rattle.wasm_syntax.specs.declared.module.Module.{Module}
use Rattle.wasm_syntax.specs.Validity.{IsValid}
use Rattle.vm_host.specs.RoleTypes.{allocator_in}
use Rattle.vm_host.specs.Vms.{IsOutline}
use Rattle.vm_host.proofs.RoleTies.{fits_linked}
use Rattle.vm_host.proofs.FirstVm.{first_is}
use Rattle.vm_host.proofs.vm.Vm.new.Goals as goal

pub machine_of-requires-clause-none : goal.machine_of-requires-clause-none
machine_of-requires-clause-none c = fits_linked c.args.code c.args.pages c.requires.fits

pub invariant_of-result : goal.invariant_of-result
invariant_of-result c =
    let o = c.in-Ok.outline in
    rw c.in_ok-parts.ensures.ok
    (first_is c.args.code c.args.pages (subst (λ (m : Module). IsValid m) c.module.ensures.holds c.module.ensures.valid) c.requires.fits c.in_ok-machine.machine c.in_ok-machine.ensures
    o.targets o.closed o.functions o.start (subst (λ (m : Module). IsOutline m o.targets o.closed o.functions o.start) c.module.ensures.holds c.in-Ok.ensures)
    c.args.place c.args.fuel c.allocator-allocator.result (c.allocator-allocator.ensures ∙ ap allocator_in c.as_slice.ensures))
