use Rattle.law_filters.proofs.Walks.{roots_stand_after_turns, roots_stand_for_life}
use Rattle.law_filters.proofs.laws.roots_stand_for_life.Goals as goal

pub returns-clause-steps : goal.returns-clause-steps
returns-clause-steps c =
    roots_stand_for_life c.roots_stand.ensures.starts c.machines_write_logs.ensures c.callbacks_change_their_own.ensures.contexts c.callbacks_change_their_own.ensures.stays c.made_vms_are_in_place.ensures

pub returns-clause-turns : goal.returns-clause-turns
returns-clause-turns c =
    roots_stand_after_turns c.roots_stand.ensures.starts c.machines_write_logs.ensures c.callbacks_change_their_own.ensures.contexts c.callbacks_change_their_own.ensures.stays c.made_vms_are_in_place.ensures
