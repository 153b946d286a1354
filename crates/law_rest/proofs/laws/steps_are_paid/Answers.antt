use Rattle.law_rest.proofs.Turns.{steps_are_paid}
use Rattle.law_rest.proofs.laws.steps_are_paid.Goals as goal

pub returns : goal.returns
returns g c = steps_are_paid _
