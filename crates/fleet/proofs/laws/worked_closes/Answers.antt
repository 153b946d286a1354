use Rattle.fleet.proofs.Closings.{examples}
use Rattle.fleet.proofs.laws.worked_closes.Goals as goal

pub returns : goal.returns
returns c = examples
