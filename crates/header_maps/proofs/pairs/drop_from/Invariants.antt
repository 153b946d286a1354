use Rattle.std.proofs.Common.{◌≡◌, ◌≤◌, ◌-◌, ◌++◌, take, drop, length}
use Rattle.http_header.specs.Token.{lowercase}
use Rattle.header_maps.specs.Operations.{without}
use Rattle.header_maps.proofs.pairs.drop_from.Given as goal

-- what stands in front of the place is kept, and of what stands behind it the other fields
abbrev pub invariant-loop-at : goal.invariant-loop-at
invariant-loop-at l = record {
  within : l.at ≤ length l.items;
  kept : take l.at l.items ++ without (lowercase l.name) (drop l.at l.items)
      ≡ take l.from l.fn.items ++ without (lowercase l.name) (drop l.from l.fn.items);
}

abbrev pub decreases-loop-at : goal.decreases-loop-at
decreases-loop-at l = length l.items - l.at
