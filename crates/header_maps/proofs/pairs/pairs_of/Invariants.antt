use Rattle.std.proofs.Common.{◌≡◌, ◌++◌, drop}
use Rattle.header_maps.proofs.pairs.pairs_of.Given as goal

-- those copied, and what is left
abbrev pub invariant-loop-at : goal.invariant-loop-at
invariant-loop-at l = l.pairs ++ drop l.at l.items ≡ l.items
