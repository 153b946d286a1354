use Rattle.std.proofs.Common.{◌≡◌, ◌++◌, drop}
use Rattle.std.specs.Prelude.{filter, map}
use Rattle.http_header.specs.Token.{lowercase}
use Rattle.header_maps.specs.Pairs.{lowered, is_named}
use Rattle.header_maps.proofs.pairs.push_named.Given as goal

-- those put so far, and those of what is left
abbrev pub invariant-loop-field : goal.invariant-loop-field
invariant-loop-field l =
    l.items ++ map lowered (filter (is_named (lowercase l.name)) (drop l.field-index l.given))
    ≡ l.fn.items ++ map lowered (filter (is_named (lowercase l.name)) l.given)
