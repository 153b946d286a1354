use Rattle.std.proofs.Common.{◌≡◌, ◌≤◌, [], length, take, drop}
use Rattle.send_queue.specs.Sorted.{IsSorted}
use Rattle.send_queue.proofs.Offers.{SoFar}
use Rattle.send_queue.proofs.offer.offer_waiting.Given as goal

-- those in front were offered
abbrev pub invariant-loop-at : goal.invariant-loop-at
invariant-loop-at g l = record {
  last : g.W.World.last l.world ≡ g.W.World.last l.fn.world;
  nature : g.W.World.nature l.world ≡ g.W.World.nature l.fn.world;
  faults : g.W.World.faults l.fn.world ≤ g.W.World.faults l.world;
  offered : SoFar (g.W.World.nature l.fn.world).takes_whole (g.W.World.trace l.fn.world) [] l.fn.members.items (drop l.at l.members.items) (g.W.World.trace l.world) (take l.at l.members.items);
  sorted : IsSorted l.members.items;
}

abbrev pub decreases-loop-at : goal.decreases-loop-at
decreases-loop-at g l = length (drop l.at l.members.items)
