use Rattle.worker_meaning.proofs.Folding.{examples}
use Rattle.worker_meaning.proofs.laws.worked_meanings.Goals as goal

pub returns : goal.returns
returns g c = examples _
