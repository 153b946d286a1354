use Rattle.fleet.proofs.Causes.{examples}
use Rattle.fleet.proofs.laws.worked_ends.Goals as goal

pub returns : goal.returns
returns g c = examples _
