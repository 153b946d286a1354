use Rattle.law_filters.proofs.Shutting.{dead_filters_end_exchanges}
use Rattle.law_filters.proofs.laws.dead_filters_end_exchanges.Goals as goal

pub returns : goal.returns
returns c = dead_filters_end_exchanges c.machines_write_logs.ensures c.callbacks_change_their_own.ensures.contexts c.callbacks_change_their_own.ensures.stays c.made_vms_are_in_place.ensures
