use Rattle.fleet.proofs.Alone.{one_worker}
use Rattle.fleet.proofs.laws.one_worker_is_alone.Goals as goal

pub returns : goal.returns
returns g c = one_worker g.W.World.trace g.W.World.nature g.W.World.faults g.H.Host.calling
