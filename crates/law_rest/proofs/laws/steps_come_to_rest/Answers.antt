use Rattle.law_rest.proofs.Settling.{steps_come_to_rest}
use Rattle.law_rest.proofs.laws.steps_come_to_rest.Goals as goal

pub returns : goal.returns
returns g c = steps_come_to_rest _
