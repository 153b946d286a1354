use Rattle.std.proofs.Common.{◌≡◌, take, length, sum_by}
use Rattle.shared_queues.proofs.queues.SharedQueues.item_count.Given as goal

-- those so far are counted
abbrev pub invariant-loop-queue : goal.invariant-loop-queue
invariant-loop-queue l = l.count ≡ sum_by (λ q. length q.items.items) (take l.queue-index l.queue-items)
