use Rattle.fleet.proofs.Alone.{examples}
use Rattle.fleet.proofs.laws.worked_alone.Goals as goal

pub returns : goal.returns
returns c = examples
