use Rattle.law_bodies.proofs.Bounding.{times_kept}
use Rattle.law_bodies.proofs.laws.times_are_kept.Goals as goal

pub returns : goal.returns
returns c = times_kept
