use Rattle.law_reading.proofs.Wholly.{workers_read}
use Rattle.law_reading.proofs.laws.workers_read_what_came.Goals as goal

pub returns : goal.returns
returns g c = workers_read _ _ _
