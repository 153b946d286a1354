use Rattle.law_filters.proofs.Asking.{stages_are_asked_first}
use Rattle.law_filters.proofs.laws.stages_are_asked_first.Goals as goal

pub returns : goal.returns
returns c =
    stages_are_asked_first c.roots_stand.ensures.starts c.machines_write_logs.ensures c.callbacks_change_their_own.ensures.contexts c.callbacks_change_their_own.ensures.stays c.made_vms_are_in_place.ensures
