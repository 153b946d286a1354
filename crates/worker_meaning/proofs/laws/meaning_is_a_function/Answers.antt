use Rattle.worker_meaning.proofs.Folding.{is_a_function}
use Rattle.worker_meaning.proofs.laws.meaning_is_a_function.Goals as goal

pub returns : goal.returns
returns g c = is_a_function _
