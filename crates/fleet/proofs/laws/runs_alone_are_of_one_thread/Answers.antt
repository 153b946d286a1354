use Rattle.fleet.proofs.Alone.{runs_alone}
use Rattle.fleet.proofs.laws.runs_alone_are_of_one_thread.Goals as goal

pub returns : goal.returns
returns g c = runs_alone g.H.Host.calling
