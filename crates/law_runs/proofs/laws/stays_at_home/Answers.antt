use Rattle.law_runs.proofs.Homes.{stays_at_home}
use Rattle.law_runs.proofs.laws.stays_at_home.Goals as goal

pub returns : goal.returns
returns c = stays_at_home c.callbacks_are_apart.ensures c.callbacks_change_their_own.ensures.contexts c.callbacks_change_their_own.ensures.stays
