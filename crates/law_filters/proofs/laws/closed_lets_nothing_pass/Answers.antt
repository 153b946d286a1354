use Rattle.law_filters.proofs.Closed.{closed_lets_nothing_pass}
use Rattle.law_filters.proofs.laws.closed_lets_nothing_pass.Goals as goal

pub returns : goal.returns
returns c =
    closed_lets_nothing_pass c.roots_stand.ensures.starts c.machines_write_logs.ensures c.callbacks_change_their_own.ensures.contexts c.callbacks_change_their_own.ensures.stays c.roots_stand.ensures.filters c.made_vms_are_in_place.ensures
