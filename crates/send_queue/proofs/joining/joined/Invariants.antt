use Rattle.std.proofs.Common.{◌≡◌}
use Rattle.send_queue.specs.Joined.{joined_behind, join_neighbours}
use Rattle.send_queue.proofs.joining.joined.Given as goal

abbrev pub invariant-loop-member : goal.invariant-loop-member
invariant-loop-member l = joined_behind l.list.items l.member-iterator.rest.items ≡ join_neighbours l.fn.sent.items
