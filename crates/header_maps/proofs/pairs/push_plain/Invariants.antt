use Rattle.std.proofs.Common.{◌≡◌, ◌++◌, drop}
use Rattle.std.specs.Prelude.{map}
use Rattle.header_maps.specs.Pairs.{lowered, plain_among}
use Rattle.header_maps.proofs.pairs.push_plain.Given as goal

-- those put so far, and those of what is left
abbrev pub invariant-loop-field : goal.invariant-loop-field
invariant-loop-field l =
    l.items ++ map lowered (plain_among (drop l.field-index l.given))
    ≡ l.fn.items ++ map lowered (plain_among l.given)
