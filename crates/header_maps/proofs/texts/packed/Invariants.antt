use Rattle.std.proofs.Common.{◌≡◌, take, length}
use Rattle.std.specs.Prelude.{All, sum_by}
use Rattle.header_maps.specs.Places.{pairs_in, size_at, IsWithin}
use Rattle.header_maps.proofs.texts.packed.Given as goal

-- those copied are the first ones
abbrev pub invariant-loop-place : goal.invariant-loop-place
invariant-loop-place l = record {
  within : All (IsWithin (length l.own.items)) l.moved.items;
  pairs : pairs_in l.own.items l.moved.items ≡ pairs_in l.bytes (take l.place-index l.places);
  size : length l.own.items ≡ sum_by size_at l.moved.items;
}
