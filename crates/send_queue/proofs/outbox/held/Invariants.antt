use Rattle.std.proofs.Common.{◌≡◌, ◌++◌}
use Rattle.send_queue.proofs.outbox.held.Given as goal

-- those so far, and the others
abbrev pub invariant-loop-member : goal.invariant-loop-member
invariant-loop-member l = l.list.items ++ l.member-iterator.rest.items ≡ l.fn.sent.items
