-- How long a joined value may be.
use Rattle.std.proofs.Common.{◌≡◌, ℕ, ◌*◌, ◌^◌, ◌<◌, ◌≤◌, Bool, true, false, cond, List, [], ◌∷◌, length, map, filter, refl, arith, nat_le, Option, Result, Ok, Err, length-append, suc, subst, sym}
use Rattle.std.specs.Prelude.{IfOk, IfSome}
use Rattle.std.specs.List.{list_all, join_with_byte}
use Rattle.std.proofs.lemmas.Bool.{and_parts, leb-true}
use Rattle.header_maps.specs.Kept.{is_short, IsHeaders}
use Rattle.header_maps.specs.Pairs.{Pair, is_named, values_of, joined}
use Rattle.header_maps.proofs.Kept.{listed, counted}
use Rattle.header_maps.specs.declared.kind.ListKind.{ListKind}
use Rattle.header_maps.specs.declared.kind.ListKind.TheVariants.{Request, Response, Interim, Plain}
use Rattle.header_maps.specs.Kinds.{pseudo_names}

-- a value that is short
abbrev short_value : List ℕ → Bool
short_value v = nat_le (length v) 16777216

join_length :
    (vs : List (List ℕ)) → list_all short_value vs ≡ true → length (join_with_byte 44 vs) ≤ length vs * 16777217
join_length [] h = omega arith
join_length (x ∷ []) h =
    let parts = and_parts (short_value x) true h in
    let short : length x ≤ 16777216 = leb-true (length x) 16777216 parts.0 in omega arith
join_length (x ∷ y ∷ vs) h =
    let parts = and_parts (short_value x) (list_all short_value (y ∷ vs)) h in
    let short : length x ≤ 16777216 = leb-true (length x) 16777216 parts.0 in
    let rest = join_length (y ∷ vs) parts.1 in
    let sum = length-append x (44 ∷ join_with_byte 44 (y ∷ vs)) in
    omega (arith, rest, sum)

values_short : (n : List ℕ) (ps : List Pair) → list_all is_short ps ≡ true → list_all short_value (values_of n ps) ≡ true
values_short n [] h = refl
values_short n (p ∷ ps) h =
    let parts = and_parts (is_short p) (list_all is_short ps) h in
    let both = and_parts (nat_le (length p.0) 16777216) (short_value p.1) parts.0 in
    let rest = values_short n ps parts.1 in
    let here : short_value p.1 ≡ true = both.1 in
    let P : Bool → Type 0 = λ k. list_all short_value (map (λ (f : Pair). f.1) (cond k (p ∷ filter (is_named n) ps) (filter (is_named n) ps))) ≡ true in
    elim (is_named n p) as P [ true ↦ rw here rest | false ↦ rest ]

values_fewer : (n : List ℕ) (ps : List Pair) → length (values_of n ps) ≤ length ps
values_fewer n [] = omega arith
values_fewer n (p ∷ ps) =
    let rest = values_fewer n ps in
    let P : Bool → Type 0 = λ k. length (map (λ (f : Pair). f.1) (cond k (p ∷ filter (is_named n) ps) (filter (is_named n) ps))) ≤ suc (length ps) in
    elim (is_named n p) as P [ true ↦ omega (arith, rest) | false ↦ omega (arith, rest) ]

names_few : (kind : ListKind) → length (pseudo_names kind) ≤ 4
names_few Request = omega arith
names_few Response = omega arith
names_few Interim = omega arith
names_few Plain = omega arith

some_bound : (vs : List (List ℕ)) → list_all short_value vs ≡ true → length vs ≤ 104 → IfSome (joined vs) (λ b. length b < 2 ^ 32)
some_bound [] h l = tt
some_bound (v ∷ vs) h l = let most = join_length (v ∷ vs) h in omega (arith, most, l)

-- a joined value is shorter than 2^32
pub joined_bound :
    (kind : ListKind) (pairs : List Pair) (n : List ℕ) → IsHeaders (listed kind pairs)
    → IfSome (joined (values_of n pairs)) (λ b. length b < 2 ^ 32)
joined_bound kind pairs n h =
    let k = counted kind pairs h in
    let names = names_few kind in
    let fewer = values_fewer n pairs in
    let few : length (values_of n pairs) ≤ 104 = omega (arith, k.sum, k.few, names, fewer) in
    some_bound (values_of n pairs) (values_short n pairs h.short) few

pub if_joined :
    {E : Type 0} (r : Result (Option (List ℕ)) E) (vs : List (List ℕ)) → IfOk r (λ v. v ≡ joined vs)
    → IfSome (joined vs) (λ b. length b < 2 ^ 32) → IfOk r (λ v. IfSome v (λ b. length b < 2 ^ 32))
if_joined (Ok v) vs e b = subst (λ (o : Option (List ℕ)). IfSome o (λ b. length b < 2 ^ 32)) (sym e) b
if_joined (Err x) vs e b = tt
