use Rattle.std.proofs.Common.{◌≡◌, ◌++◌, length}
use Rattle.pair_codec.proofs.serialised.Serialised.to_pairs.Given as goal

-- those copied, and what is left
abbrev pub invariant-loop-name : goal.invariant-loop-name
invariant-loop-name l = l.self ≡ l.pairs ++ l.left

abbrev pub decreases-loop-name : goal.decreases-loop-name
decreases-loop-name l = length l.left
