use Rattle.std.proofs.Common.{◌≡◌, ◌%◌, ◌^◌, take, sum_by}
use Rattle.shared_metrics.proofs.metrics.total_of.Given as goal

-- the sum of those so far
abbrev pub invariant-loop-share : goal.invariant-loop-share
invariant-loop-share l = l.total ≡ sum_by (λ s. s.word) (take l.share-index l.shares) % 2 ^ 64
