use Rattle.law_filters.proofs.EveryAsked.{every_filter_is_asked}
use Rattle.law_filters.proofs.laws.every_filter_is_asked.Goals as goal

pub returns : goal.returns
returns c =
    every_filter_is_asked c.roots_stand.ensures.starts c.machines_write_logs.ensures c.callbacks_change_their_own.ensures.contexts c.callbacks_change_their_own.ensures.stays c.roots_stand.ensures.filters c.made_vms_are_in_place.ensures
