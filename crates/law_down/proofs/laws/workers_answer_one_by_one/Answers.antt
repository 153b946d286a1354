use Rattle.law_down.proofs.Turning.{workers_answer}
use Rattle.law_down.proofs.laws.workers_answer_one_by_one.Goals as goal

pub returns : goal.returns
returns g c = workers_answer _ _ _
