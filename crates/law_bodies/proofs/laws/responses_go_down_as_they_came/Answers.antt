use Rattle.law_bodies.proofs.Living.{responses_go_down}
use Rattle.law_bodies.proofs.laws.responses_go_down_as_they_came.Goals as goal

pub returns : goal.returns
returns c = responses_go_down
