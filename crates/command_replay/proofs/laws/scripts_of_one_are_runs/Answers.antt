use Rattle.command_replay.proofs.OneRun.{scripts_of_one_are_runs}
use Rattle.command_replay.proofs.laws.scripts_of_one_are_runs.Goals as goal

pub returns : goal.returns
returns g c = scripts_of_one_are_runs _
