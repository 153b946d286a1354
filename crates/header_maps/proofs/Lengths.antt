-- How long a joined value is.
use Rattle.std.proofs.Common.{◌≡◌, ◌≤◌, ℕ, ◌+◌, ◌-◌, List, [], ◌∷◌, length, refl, ap, arith, Some, None, Option, length-append}
use Rattle.std.specs.Prelude.{sum_by, SomeIff}
use Rattle.std.specs.List.{join_with_byte}
use Rattle.std.specs.Option.{option_map}
use Rattle.std.proofs.lemmas.List.Sums.{sum_by-cons}
use Rattle.header_maps.specs.Pairs.{joined}

-- the bytes of a value, with a comma
abbrev pub with_comma : List ℕ → ℕ
with_comma value = 1 + length value

join_len : (v : List ℕ) (vs : List (List ℕ)) → 1 + length (join_with_byte 44 (v ∷ vs)) ≡ sum_by with_comma (v ∷ vs)
join_len v [] = (let one = sum_by-cons with_comma v [] in omega (arith, one))
join_len v (w ∷ vs) =
    let rest = join_len w vs in
    let sum = length-append v (44 ∷ join_with_byte 44 (w ∷ vs)) in
    let one = sum_by-cons with_comma v (w ∷ vs) in
    omega (arith, rest, sum, one)

-- the last comma is none of its bytes
pub joined_len :
    (vs : List (List ℕ)) (n : ℕ) (r : Option ℕ) → n ≡ sum_by with_comma vs → SomeIff r (1 ≤ n) (n - 1) → r ≡ option_map length (joined vs)
joined_len [] n None is some = refl
joined_len [] n (Some x) is some =
    let none : n ≡ 0 = is in
    let one : 1 ≤ n = some.0 in
    absurd (omega (arith, none, one))
joined_len (v ∷ vs) n None is some =
    let len = join_len v vs in
    absurd (some (omega (arith, is, len)))
joined_len (v ∷ vs) n (Some x) is some =
    let len = join_len v vs in
    let same : x ≡ n - 1 = some.1 in
    ap Some (omega (arith, is, len, same))
