use Rattle.std.proofs.Common.{◌≡◌, length}
use Rattle.test_metrics.proofs.row.play_alone.Given as goal

-- there are two stores
abbrev pub invariant-loop-who : goal.invariant-loop-who
invariant-loop-who l = length l.alone.stores ≡ 2
