use Rattle.std.proofs.Common.{◌≡◌, ◌<◌, length}
use Rattle.shared_queues.specs.Tree.{AllRightBut, whos_of, firsts_of}
use Rattle.shared_queues.proofs.firsts.climb.Given as goal

-- all places but the one at hand are right
abbrev pub invariant-loop-at : goal.invariant-loop-at
invariant-loop-at l = (l.at < length l.places) × AllRightBut l.places l.at × (whos_of l.places ≡ whos_of l.fn.places) × (firsts_of l.places ≡ firsts_of l.fn.places)

abbrev pub decreases-loop-at : goal.decreases-loop-at
decreases-loop-at l = l.at
