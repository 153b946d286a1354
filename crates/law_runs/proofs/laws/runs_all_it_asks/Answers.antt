use Rattle.law_runs.proofs.Bare.{runs_all_it_asks}
use Rattle.law_runs.proofs.laws.runs_all_it_asks.Goals as goal

pub returns : goal.returns
returns c =
    runs_all_it_asks c.nothing_runs.ensures.dead c.callbacks_are_apart.ensures c.callbacks_change_their_own.ensures.contexts c.callbacks_change_their_own.ensures.stays
    c.made_vms_are_in_place.ensures
