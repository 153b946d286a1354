use Rattle.law_down.proofs.Turnwise.{connections_go_in_order}
use Rattle.law_down.proofs.laws.connections_go_in_order.Goals as goal

pub returns : goal.returns
returns g c = connections_go_in_order _
