use Rattle.law_lines.proofs.Wholly.{workers_go_up}
use Rattle.law_lines.proofs.laws.workers_go_up_one_by_one.Goals as goal

pub returns : goal.returns
returns g c = workers_go_up _ _ _
