-- Worked examples: what the definitions say of pairs that are written out.
use Rattle.std.specs.Prelude.{◌≡◌, ℕ, List, [], ◌∷◌, ◌++◌, codes, take, None, Some}
use Rattle.header_maps.specs.Pairs.{Pair}
use Rattle.pair_codec.specs.Serialised.{pairs_bytes}
use Rattle.pair_codec.specs.Reading.{pairs_in}

-- one pair, `a` and `b`, and its sixteen bytes
abbrev pub one : List Pair
one = (codes "a", codes "b") ∷ []

abbrev pub one_bytes : List ℕ
one_bytes = 1 ∷ 0 ∷ 0 ∷ 0 ∷ 1 ∷ 0 ∷ 0 ∷ 0 ∷ 1 ∷ 0 ∷ 0 ∷ 0 ∷ 97 ∷ 0 ∷ 98 ∷ 0 ∷ []

-- two pairs: the sizes of all stand before the texts of all, and a text may be empty or have a zero byte
abbrev pub two : List Pair
two = (codes "ab", []) ∷ (codes "c", 0 ∷ []) ∷ []

abbrev pub two_bytes : List ℕ
two_bytes =
    2 ∷ 0 ∷ 0 ∷ 0 ∷ 2 ∷ 0 ∷ 0 ∷ 0 ∷ 0 ∷ 0 ∷ 0 ∷ 0 ∷ 1 ∷ 0 ∷ 0 ∷ 0 ∷ 1 ∷ 0 ∷ 0 ∷ 0
    ∷ 97 ∷ 98 ∷ 0 ∷ 0 ∷ 99 ∷ 0 ∷ 0 ∷ 0 ∷ []

pub record PairsExamples : Type 0 where
  pub written : pairs_bytes one ≡ one_bytes
  pub read : pairs_in one_bytes ≡ Some one
  pub one_byte_more : pairs_in (one_bytes ++ 0 ∷ []) ≡ None
  pub one_byte_less : pairs_in (take 15 one_bytes) ≡ None
  pub no_zero_behind : pairs_in (take 15 one_bytes ++ 1 ∷ []) ≡ None
  pub two_written : pairs_bytes two ≡ two_bytes
  pub two_read : pairs_in two_bytes ≡ Some two
  pub empty_written : pairs_bytes [] ≡ 0 ∷ 0 ∷ 0 ∷ 0 ∷ []
  pub empty_read : pairs_in (0 ∷ 0 ∷ 0 ∷ 0 ∷ []) ≡ Some []
  pub no_bytes : pairs_in [] ≡ Some []
  pub three_bytes : pairs_in (0 ∷ 0 ∷ 0 ∷ []) ≡ None
  pub greatest_count : pairs_in (255 ∷ 255 ∷ 255 ∷ 255 ∷ []) ≡ None
