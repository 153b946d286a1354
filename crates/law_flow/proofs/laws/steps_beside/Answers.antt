use Rattle.law_flow.proofs.Stepping.{steps_beside}
use Rattle.law_flow.proofs.laws.steps_beside.Goals as goal

pub returns : goal.returns
returns g c = steps_beside _
