use Rattle.law_bodies.proofs.Stepwise.{stale_refused}
use Rattle.law_bodies.proofs.laws.stale_sets_are_refused.Goals as goal

pub returns : goal.returns
returns c = stale_refused
