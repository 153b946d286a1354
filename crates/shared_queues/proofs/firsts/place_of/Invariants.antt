use Rattle.std.proofs.Common.{◌≡◌, ◌-◌, ◌<◌, length}
use Rattle.shared_queues.specs.Tree.{least_at}
use Rattle.shared_queues.proofs.firsts.place_of.Given as goal

-- the least number is known here
abbrev pub invariant-loop-at : goal.invariant-loop-at
invariant-loop-at l = (l.at < length l.places) × (least_at l.places l.at l.worker ≡ l.least)

abbrev pub decreases-loop-at : goal.decreases-loop-at
decreases-loop-at l = length l.places - l.at
