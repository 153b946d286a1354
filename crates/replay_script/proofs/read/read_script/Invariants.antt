use Rattle.std.proofs.Common.{◌≡◌, ◌++◌, ◌≤◌, length, ◌+◌}
use Rattle.replay_script.specs.Scripts.{script_text, at_start, behind_all, AreLines}
use Rattle.replay_script.proofs.read.read_script.Given as goal

abbrev pub invariant-loop-rest : goal.invariant-loop-rest
invariant-loop-rest l = record {
  is : l.text ≡ script_text l.commands.items ++ l.rest;
  lines : AreLines (at_start l.workers) l.commands.items;
  standing : behind_all (at_start l.workers) l.commands.items ≡ record { now = l.now; who = l.who; stopped = l.stopped; workers = l.workers };
  few : length l.commands.items + length l.rest ≤ length l.text;
}

abbrev pub decreases-loop-rest : goal.decreases-loop-rest
decreases-loop-rest l = length l.rest
