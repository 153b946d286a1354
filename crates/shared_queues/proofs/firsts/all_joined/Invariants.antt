use Rattle.std.proofs.Common.{◌≡◌, ℕ, ◌<◌, length, get_or}
use Rattle.shared_queues.specs.Tree.{joined}
use Rattle.shared_queues.proofs.firsts.all_joined.Given as goal

-- those so far are joined
abbrev pub invariant-loop-worker : goal.invariant-loop-worker
invariant-loop-worker l = (length l.least ≡ 8) × ((w : ℕ) → w < l.worker → get_or l.least w 0 ≡ joined l.places l.at w)
