use Rattle.std.proofs.Common.{◌≡◌, ◌≤◌, ◌+◌, drop, length}
use Rattle.std.specs.Prelude.{filter}
use Rattle.http_header.specs.Token.{lowercase}
use Rattle.header_maps.specs.Pairs.{is_named}
use Rattle.header_maps.proofs.pairs.count_named.Given as goal

-- those counted, and those of what is left
abbrev pub invariant-loop-field : goal.invariant-loop-field
invariant-loop-field l = record {
  counted : l.count + length (filter (is_named (lowercase l.name)) (drop l.field-index l.given))
      ≡ length (filter (is_named (lowercase l.name)) l.given);
  bound : l.count ≤ l.field-index;
}
