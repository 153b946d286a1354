use Rattle.fleet.proofs.Alone.{one_thread}
use Rattle.fleet.proofs.laws.one_worker_is_of_one_thread.Goals as goal

pub returns : goal.returns
returns g c = one_thread g.W.World.trace g.W.World.nature g.W.World.faults g.H.Host.calling
