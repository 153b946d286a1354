use Rattle.std.proofs.Common.{◌≡◌, ◌≤◌, ◌+◌, ◌*◌, drop}
use Rattle.std.specs.Prelude.{sum_by}
use Rattle.header_maps.specs.Operations.{pair_size, size_of}
use Rattle.header_maps.proofs.pairs.size_of.Given as goal

-- the bytes of those looked at, with those of what is left
abbrev pub invariant-loop-at : goal.invariant-loop-at
invariant-loop-at l = record {
  size : l.size + sum_by pair_size (drop l.at l.items) ≡ size_of l.items;
  bound : l.size ≤ 4 + l.at * 33554442;
}
