use Rattle.std.proofs.Common.{◌≡◌, ◌++◌, length, reverse}
use Rattle.gate_queue.proofs.queue.queued.Given as goal

abbrev pub invariant-loop-member : goal.invariant-loop-member
invariant-loop-member g l = l.list ++ reverse l.items.items ≡ l.fn.list

abbrev pub decreases-loop-member : goal.decreases-loop-member
decreases-loop-member g l = length l.list
