use Rattle.law_bodies.proofs.Stepwise.{comes_on}
use Rattle.law_bodies.proofs.laws.what_is_read_comes_on.Goals as goal

pub returns : goal.returns
returns c = comes_on
