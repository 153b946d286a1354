use Rattle.law_rest.proofs.Settling.{steps_leave_less}
use Rattle.law_rest.proofs.laws.steps_leave_less.Goals as goal

pub returns : goal.returns
returns g c = steps_leave_less _
