use Rattle.std.proofs.Common.{◌≡◌, ◌≤◌, ◌+◌, ◌*◌, drop, length}
use Rattle.std.specs.Prelude.{sum_by}
use Rattle.http_header.specs.Token.{lowercase}
use Rattle.header_maps.specs.Pairs.{values_of}
use Rattle.header_maps.proofs.measured.size_with_commas.Given as goal

-- the bytes of those looked at, with those of what is left
abbrev pub invariant-loop-at : goal.invariant-loop-at
invariant-loop-at l = record {
  size : l.size + sum_by (λ value. 1 + length value) (values_of (lowercase l.name) (drop l.at l.items))
      ≡ sum_by (λ value. 1 + length value) (values_of (lowercase l.name) l.items);
  bound : l.size ≤ l.at * 16777217;
}
