use Rattle.law_bodies.proofs.Stepwise.{paused_held}
use Rattle.law_bodies.proofs.laws.what_is_paused_is_held.Goals as goal

pub returns : goal.returns
returns c = paused_held
