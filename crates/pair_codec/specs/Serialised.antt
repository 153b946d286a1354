-- The serialised form of pairs (this project's profile of the Proxy-Wasm ABI): how many pairs there are, the sizes of each name
-- and value, and then each name and value with a zero byte behind it. A number has four bytes, the lowest first.
use Rattle.std.specs.Prelude.{ℕ, Bool, ◌&&◌, nat_lt, List, [], ◌∷◌, ◌++◌, ◌^◌, length}
use Rattle.std.specs.Int.{w32, to_le_bytes}
use Rattle.std.specs.List.{flat_map, list_all}
use Rattle.header_maps.specs.Pairs.{Pair}

abbrev pub sizes_bytes : Pair → List ℕ
sizes_bytes pair = to_le_bytes w32 (length pair.0) ++ to_le_bytes w32 (length pair.1)

abbrev pub text_bytes : List ℕ → List ℕ
text_bytes text = text ++ 0 ∷ []

abbrev pub texts_bytes : Pair → List ℕ
texts_bytes pair = text_bytes pair.0 ++ text_bytes pair.1

abbrev pub pairs_bytes : List Pair → List ℕ
pairs_bytes pairs = to_le_bytes w32 (length pairs) ++ (flat_map sizes_bytes pairs ++ flat_map texts_bytes pairs)

-- the sizes of its name and value have four bytes
abbrev pub is_sized : Pair → Bool
is_sized pair = nat_lt (length pair.0) (2 ^ 32) && nat_lt (length pair.1) (2 ^ 32)

-- the count has four bytes too
abbrev pub are_sized : List Pair → Bool
are_sized pairs = nat_lt (length pairs) (2 ^ 32) && list_all is_sized pairs
