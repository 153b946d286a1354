use Rattle.law_runs.proofs.Homes.{run_over_lives}
use Rattle.law_runs.proofs.laws.runs_over_lives.Goals as goal

pub returns : goal.returns
returns c = run_over_lives c.callbacks_are_apart.ensures c.callbacks_change_their_own.ensures.contexts c.callbacks_change_their_own.ensures.stays c.made_vms_are_in_place.ensures c.lives_keep_places.ensures
