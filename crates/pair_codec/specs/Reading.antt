-- The pairs that bytes stand for.
use Rattle.std.specs.Prelude.{ℕ, zero, suc, ◌+◌, ◌*◌, ◌==◌, Bool, ◌&&◌, nat_lt, nat_le, if◌then◌else◌, List, [], ◌∷◌, take, drop, length, slice_index, Option, None, Some}
use Rattle.std.specs.Int.{w32, from_le_bytes}
use Rattle.std.specs.Option.{option_map}
use Rattle.header_maps.specs.Pairs.{Pair}

-- the number of the first four bytes
abbrev pub word_in : List ℕ → ℕ
word_in bytes = from_le_bytes w32 (take 4 bytes)

-- so many bytes stand there, with a zero byte behind them
abbrev pub has_text : ℕ → List ℕ → Bool
has_text size bytes = nat_lt size (length bytes) && (slice_index bytes size == 0)

-- a name and a value of these sizes
abbrev pub has_pair : (name value : ℕ) → List ℕ → Bool
has_pair name value bytes = has_text name bytes && has_text value (drop (name + 1) bytes)

abbrev pub pair_in : (name value : ℕ) → List ℕ → Pair
pair_in name value bytes = (take name bytes, take value (drop (name + 1) bytes))

abbrev pub behind_pair : (name value : ℕ) → List ℕ → List ℕ
behind_pair name value bytes = drop (name + 1 + (value + 1)) bytes

abbrev pub no_more : List ℕ → Option (List Pair)
no_more [] = Some []
no_more (b ∷ bs) = None

-- so many pairs, whose sizes stand there and whose texts stand here; nothing follows the texts
abbrev pub texts_in : ℕ → (sizes texts : List ℕ) → Option (List Pair)
texts_in zero sizes texts = no_more texts
texts_in (suc k) sizes texts =
    if has_pair (word_in sizes) (word_in (drop 4 sizes)) texts
    then option_map (λ ps. pair_in (word_in sizes) (word_in (drop 4 sizes)) texts ∷ ps) (texts_in k (drop 8 sizes) (behind_pair (word_in sizes) (word_in (drop 4 sizes)) texts))
    else None

-- the pairs of bytes that are not empty
abbrev pub counted_in : List ℕ → Option (List Pair)
counted_in bytes =
    if nat_le 4 (length bytes) && nat_le (4 + 8 * word_in bytes) (length bytes)
    then texts_in (word_in bytes) (drop 4 bytes) (drop (4 + 8 * word_in bytes) bytes)
    else None

-- the pairs of bytes, which are none where there are no bytes
abbrev pub pairs_in : List ℕ → Option (List Pair)
pairs_in [] = Some []
pairs_in (b ∷ bs) = counted_in (b ∷ bs)
