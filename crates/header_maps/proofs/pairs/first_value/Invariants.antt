use Rattle.std.proofs.Common.{◌≡◌, drop}
use Rattle.std.specs.List.{find}
use Rattle.http_header.specs.Token.{lowercase}
use Rattle.header_maps.specs.Pairs.{is_named}
use Rattle.header_maps.proofs.pairs.first_value.Given as goal

-- the first of all is the first of what is left
abbrev pub invariant-loop-at : goal.invariant-loop-at
invariant-loop-at l =
    find (is_named (lowercase l.name)) (drop l.at l.items) ≡ find (is_named (lowercase l.name)) l.items
