use Rattle.std.proofs.Common.{take}
use Rattle.replay_script.specs.Commands.{IsFree}
use Rattle.replay_script.proofs.split.split_once.Given as goal

abbrev pub invariant-loop-at : goal.invariant-loop-at
invariant-loop-at l = IsFree l.byte (take l.at l.text)
