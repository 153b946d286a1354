use Rattle.std.proofs.Common.{ℕ, Option, None, Some, sym, ◌∙◌, subst}
use Rattle.store_model.specs.Program.{done, Runs}
use Rattle.store_model.specs.Runs.{runs_none}
use Rattle.vm_host.specs.declared.ended.LastRunEnd.TheVariants as ended
use Rattle.vm_host.specs.HostStates.{host_state}
use Rattle.vm_host.specs.Vms.{ran, calling_if}
use Rattle.vm_host.proofs.vm.Vm.call_role.Goals as goal

pub returns-in-None-clause-run : goal.returns-in-None-clause-run
returns-in-None-clause-run g c =
    let s = host_state c.args.contexts.now c.args.lines.now in
    let n = c.args.numbers in
    let end = done (ran (ended.Returned None) (Some c.args.self) s) in
    subst (λ (o : Option ℕ). Runs g.S.Shared.performs c.args.shared.now (calling_if c.args.self c.args.now o c.args.role n.context n.first n.second s) end c.args.shared.now) (sym c.in-None.is ∙ c.function_of.ensures.is)
    (runs_none g.S.Shared.performs g.met.S.Shared.nothing c.args.shared.now end)
