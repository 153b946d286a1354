use Rattle.worker_meaning.proofs.Folding.{goes_on}
use Rattle.worker_meaning.proofs.laws.meaning_goes_on.Goals as goal

pub returns : goal.returns
returns g c = goes_on
