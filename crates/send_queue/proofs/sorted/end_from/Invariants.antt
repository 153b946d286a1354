use Rattle.std.proofs.Common.{◌≤◌, length, take}
use Rattle.send_queue.specs.Sorted.{AreUpTo}
use Rattle.send_queue.proofs.sorted.end_from.Given as goal

-- those in front are of this rank or a lower one
abbrev pub invariant-loop-end : goal.invariant-loop-end
invariant-loop-end l = record {
  within : l.end ≤ length l.members;
  up_to : AreUpTo l.most (take l.end l.members);
}
