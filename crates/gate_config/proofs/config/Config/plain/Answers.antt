use Rattle.gate_config.proofs.Kept.{plain_kept}
use Rattle.gate_config.proofs.config.Config.plain.Goals as goal

pub invariant_of-result-clause-kept : goal.invariant_of-result-clause-kept
invariant_of-result-clause-kept c =
    rw (c.in_ok-plain_vm_list.ensures, c.in_ok-plain_plugin_list.ensures, c.in_ok-routes.ensures) (plain_kept c.args.vms c.requires)

pub invariant_of-result-clause-routed : goal.invariant_of-result-clause-routed
invariant_of-result-clause-routed c = rw (c.in_ok-routes.ensures, c.in_ok-plain_router.ensures)
