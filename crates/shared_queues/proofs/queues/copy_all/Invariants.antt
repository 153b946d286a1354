use Rattle.std.proofs.Common.{◌≡◌, take}
use Rattle.shared_queues.proofs.queues.copy_all.Given as goal

-- those so far are copied
abbrev pub invariant-loop-at : goal.invariant-loop-at
invariant-loop-at l = l.copies ≡ take l.at l.items.items
