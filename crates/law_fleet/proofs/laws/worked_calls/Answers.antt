use Rattle.law_fleet.proofs.Calls.{examples}
use Rattle.law_fleet.proofs.laws.worked_calls.Goals as goal

pub returns : goal.returns
returns g c = examples g.W.World.trace g.W.World.nature g.W.World.faults g.H.Host.calling
