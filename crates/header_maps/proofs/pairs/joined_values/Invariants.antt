use Rattle.std.proofs.Common.{◌≡◌, take}
use Rattle.http_header.specs.Token.{lowercase}
use Rattle.header_maps.specs.Pairs.{values_of, joined}
use Rattle.header_maps.proofs.pairs.joined_values.Given as goal

-- the values of those looked at, joined
abbrev pub invariant-loop-at : goal.invariant-loop-at
invariant-loop-at l = l.joined ≡ joined (values_of (lowercase l.name) (take l.at l.items))
