-- The sizes of a header list's names and values have four bytes.
use Rattle.std.proofs.Common.{◌≡◌, ◌≤◌, ℕ, ◌^◌, Bool, true, false, ◌&&◌, nat_lt, nat_le, List, [], ◌∷◌, length, refl, arith}
use Rattle.std.specs.List.{list_all}
use Rattle.std.proofs.lemmas.Bool.Decides.{nat_tests}
use Rattle.header_maps.specs.Headers.{Headers}
use Rattle.header_maps.specs.Kept.{byte_limit, is_short, IsHeaders}
use Rattle.header_maps.specs.Pairs.{Pair}
use Rattle.pair_codec.specs.Serialised.{is_sized, are_sized}

both : (a b : Bool) → a ≡ true → b ≡ true → (a && b) ≡ true
both true b p q = q
both false b p q = absurd (cc)

first_of : (a b : Bool) → (a && b) ≡ true → a ≡ true
first_of true b p = refl
first_of false b p = p

second_of : (a b : Bool) → (a && b) ≡ true → b ≡ true
second_of true b p = p
second_of false b p = absurd (cc)

fits : (n : ℕ) → nat_le n byte_limit ≡ true → nat_lt n (2 ^ 32) ≡ true
fits n h = grind (arith, nat_tests)

few_fit : (n : ℕ) → n ≤ 104 → nat_lt n (2 ^ 32) ≡ true
few_fit n h = grind (arith, nat_tests)

all_sized : (ps : List Pair) → list_all is_short ps ≡ true → list_all is_sized ps ≡ true
all_sized [] short = refl
all_sized (p ∷ ps) short =
    let mine = first_of (is_short p) (list_all is_short ps) short in
    both (is_sized p) (list_all is_sized ps)
    (both (nat_lt (length p.0) (2 ^ 32)) (nat_lt (length p.1) (2 ^ 32))
    (fits (length p.0) (first_of (nat_le (length p.0) byte_limit) (nat_le (length p.1) byte_limit) mine))
    (fits (length p.1) (second_of (nat_le (length p.0) byte_limit) (nat_le (length p.1) byte_limit) mine)))
    (all_sized ps (second_of (is_short p) (list_all is_short ps) short))

pub headers_sized : (h : Headers) → IsHeaders h → length h.pairs ≤ 104 → are_sized h.pairs ≡ true
headers_sized h is few = both (nat_lt (length h.pairs) (2 ^ 32)) (list_all is_sized h.pairs) (few_fit (length h.pairs) few) (all_sized h.pairs is.short)
