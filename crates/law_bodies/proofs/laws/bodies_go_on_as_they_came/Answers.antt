use Rattle.h1_write.proofs.Round.{body_read_back}
use Rattle.law_bodies.proofs.Passing.{bodies_go_on}
use Rattle.law_bodies.proofs.laws.bodies_go_on_as_they_came.Goals as goal

pub returns : goal.returns
returns c = bodies_go_on body_read_back
