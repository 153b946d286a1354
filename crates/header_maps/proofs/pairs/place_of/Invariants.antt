use Rattle.std.proofs.Common.{◌≡◌, ◌+◌, drop}
use Rattle.std.specs.List.{position_or_len}
use Rattle.http_header.specs.Token.{lowercase}
use Rattle.header_maps.specs.Pairs.{is_named}
use Rattle.header_maps.proofs.pairs.place_of.Given as goal

-- none of those looked at has the name
abbrev pub invariant-loop-at : goal.invariant-loop-at
invariant-loop-at l =
    position_or_len (is_named (lowercase l.name)) l.items ≡ l.at + position_or_len (is_named (lowercase l.name)) (drop l.at l.items)
