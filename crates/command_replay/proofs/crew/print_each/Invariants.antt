use Rattle.std.proofs.Common.{◌≡◌, ◌++◌, take}
use Rattle.replay_script.specs.Prints.{printed}
use Rattle.command_replay.proofs.crew.print_each.Given as goal

abbrev pub invariant-loop-one : goal.invariant-loop-one
invariant-loop-one l = l.out ≡ l.fn.out ++ printed (take l.one-index l.sent)
