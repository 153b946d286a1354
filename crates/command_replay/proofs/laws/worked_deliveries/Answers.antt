use Rattle.command_replay.proofs.Delivering.{examples}
use Rattle.command_replay.proofs.laws.worked_deliveries.Goals as goal

pub returns : goal.returns
returns g c = examples _
