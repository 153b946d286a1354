use Rattle.std.proofs.Common.{◌≡◌, ◌∷◌, ◌++◌, length}
use Rattle.pair_codec.specs.Lists.{scheme_field}
use Rattle.pair_codec.proofs.lists.pairs_with_scheme.Given as goal

-- those copied, and what is left
abbrev pub invariant-loop-name : goal.invariant-loop-name
invariant-loop-name l = (scheme_field ∷ l.form) ≡ l.pairs ++ l.left

abbrev pub decreases-loop-name : goal.decreases-loop-name
decreases-loop-name l = length l.left
