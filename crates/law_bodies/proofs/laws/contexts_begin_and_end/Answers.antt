use Rattle.law_bodies.proofs.Bounding.{begin_and_end}
use Rattle.law_bodies.proofs.laws.contexts_begin_and_end.Goals as goal

pub returns : goal.returns
returns c = begin_and_end
