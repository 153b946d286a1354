use Rattle.command_replay.proofs.Once.{one_replay}
use Rattle.command_replay.proofs.laws.one_replay.Goals as goal

pub returns : goal.returns
returns g c = one_replay _
