-- What holds of the serialised form.
use Rattle.std.specs.Prelude.{◌≡◌, ◌<◌, ◌⊎◌, ℕ, true, List, [], length, Some, slice_index}
use Rattle.header_maps.specs.Pairs.{Pair}
use Rattle.header_maps.specs.Operations.{size_of}
use Rattle.pair_codec.specs.Serialised.{pairs_bytes, are_sized}
use Rattle.pair_codec.specs.Reading.{pairs_in}

-- what is written is read back
abbrev pub ReadBack : Type 0
ReadBack = (pairs : List Pair) → are_sized pairs ≡ true → pairs_in (pairs_bytes pairs) ≡ Some pairs

-- bytes that are read are those that would be written, but that no bytes are no pairs too
abbrev pub WrittenSo : Type 0
WrittenSo = (bytes : List ℕ) (pairs : List Pair) → ((k : ℕ) → slice_index bytes k < 256) → pairs_in bytes ≡ Some pairs
    → ((bytes ≡ []) × (pairs ≡ [])) ⊎ ((are_sized pairs ≡ true) × (bytes ≡ pairs_bytes pairs))

-- the size that is told is the number of bytes
abbrev pub SizeIsLength : Type 0
SizeIsLength = (pairs : List Pair) → length (pairs_bytes pairs) ≡ size_of pairs
