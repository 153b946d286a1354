use Rattle.command_replay.proofs.Once.{fronts_of_one}
use Rattle.command_replay.proofs.laws.fronts_of_one.Goals as goal

pub returns : goal.returns
returns g c = fronts_of_one _
