use Rattle.std.proofs.Common.{◌≡◌, ◌-◌, ◌^◌, take}
use Rattle.std.specs.Prelude.{min, sum_by}
use Rattle.header_maps.specs.Places.{size_at}
use Rattle.header_maps.proofs.texts.text_size.Given as goal

-- the bytes of those counted
abbrev pub invariant-loop-place : goal.invariant-loop-place
invariant-loop-place l = l.size ≡ min (sum_by size_at (take l.place-index l.places)) (2 ^ 64 - 1)
