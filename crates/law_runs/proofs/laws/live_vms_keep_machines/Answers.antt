use Rattle.law_runs.proofs.Homes.{live_keep_machines}
use Rattle.law_runs.proofs.laws.live_vms_keep_machines.Goals as goal

pub returns : goal.returns
returns c = live_keep_machines c.callbacks_are_apart.ensures c.callbacks_change_their_own.ensures.contexts c.callbacks_change_their_own.ensures.stays
