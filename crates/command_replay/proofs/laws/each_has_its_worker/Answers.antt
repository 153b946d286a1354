use Rattle.command_replay.proofs.Fronts.{all_placed}
use Rattle.command_replay.proofs.laws.each_has_its_worker.Goals as goal

pub returns : goal.returns
returns c = λ commands. all_placed commands
