use Rattle.law_down.proofs.Turnwise.{workers_go_in_order}
use Rattle.law_down.proofs.laws.workers_go_in_order.Goals as goal

pub returns : goal.returns
returns g c = workers_go_in_order _ _ _
