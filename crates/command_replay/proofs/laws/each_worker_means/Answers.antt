use Rattle.command_replay.proofs.Meant.{each_worker_means}
use Rattle.command_replay.proofs.laws.each_worker_means.Goals as goal

pub returns : goal.returns
returns g c = each_worker_means _
