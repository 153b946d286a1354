use Rattle.std.proofs.Common.{◌≡◌, ◌≤◌, ◌+◌, drop}
use Rattle.header_maps.specs.Pairs.{plain_count}
use Rattle.header_maps.proofs.pairs.count_plain.Given as goal

-- those counted, and those of what is left
abbrev pub invariant-loop-field : goal.invariant-loop-field
invariant-loop-field l = record {
  counted : l.count + plain_count (drop l.field-index l.given) ≡ plain_count l.given;
  bound : l.count ≤ l.field-index;
}
