use Rattle.std.proofs.Common.{◌≡◌, take}
use Rattle.std.specs.List.{list_all}
use Rattle.header_maps.specs.Judged.{is_visible}
use Rattle.header_maps.proofs.judged.is_authority.Given as goal

-- those looked at
abbrev pub invariant-loop-b : goal.invariant-loop-b
invariant-loop-b l = l.right ≡ list_all is_visible (take l.b-index l.bytes)
