use Rattle.command_replay.proofs.Stops.{stop_stands_for_all}
use Rattle.command_replay.proofs.laws.stop_stands_for_all.Goals as goal

pub returns : goal.returns
returns g c = stop_stands_for_all _
