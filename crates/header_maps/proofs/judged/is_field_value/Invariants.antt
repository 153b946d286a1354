use Rattle.std.proofs.Common.{◌≡◌, take}
use Rattle.std.specs.List.{list_all}
use Rattle.http_header.specs.Token.{is_value_byte}
use Rattle.header_maps.proofs.judged.is_field_value.Given as goal

-- those looked at
abbrev pub invariant-loop-b : goal.invariant-loop-b
invariant-loop-b l = l.right ≡ list_all is_value_byte (take l.b-index l.bytes)
