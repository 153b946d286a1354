use Rattle.law_down.proofs.Counting.{connections_end}
use Rattle.law_down.proofs.laws.connections_end.Goals as goal

pub returns : goal.returns
returns g c = connections_end _ _
