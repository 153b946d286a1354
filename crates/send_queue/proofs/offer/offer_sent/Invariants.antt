use Rattle.std.proofs.Common.{◌≡◌, ◌≤◌, ◌++◌}
use Rattle.send_queue.specs.Sorted.{IsSorted}
use Rattle.send_queue.proofs.Offers.{SoFar}
use Rattle.send_queue.proofs.offer.offer_sent.Given as goal

-- the members so far were offered
abbrev pub invariant-loop-member : goal.invariant-loop-member
invariant-loop-member g l = record {
  last : g.W.World.last l.world ≡ g.W.World.last l.fn.world;
  nature : g.W.World.nature l.world ≡ g.W.World.nature l.fn.world;
  faults : g.W.World.faults l.fn.world ≤ g.W.World.faults l.world;
  offered : SoFar (g.W.World.nature l.fn.world).takes_whole (g.W.World.trace l.fn.world) l.fn.left.items (l.fn.left.items ++ l.fn.members.items) l.member-iterator.rest.items (g.W.World.trace l.world) l.left.items;
  sorted : IsSorted l.left.items;
}
