-- Steps of loops that look for the pairs of a name.
use Rattle.std.proofs.Common.{◌≡◌, ℕ, ◌+◌, ◌<◌, ◌≤◌, Bool, true, false, List, [], ◌∷◌, ◌++◌, length, take, drop, get_or, suc, refl, sym, ◌∙◌, ap, arith, zero, Some, None, nat_lt, length-append}
use Rattle.std.specs.List.{position, position_or_len, remove}
use Rattle.std.proofs.Math.Seq.{take-append_seam, drop-append_seam}
use Rattle.std.proofs.lemmas.List.{drop_more, drop_all, length-take-le}
use Rattle.std.proofs.lemmas.Bool.Decides.{nat_tests}
use Rattle.header_maps.specs.Operations.{without}
use Rattle.header_maps.specs.Pairs.{Pair, is_named}

below : (i n : ℕ) → i < n → nat_lt i n ≡ true
below i n l = grind (arith, nat_tests)

not_below : (i n : ℕ) → n ≤ i → nat_lt i n ≡ false
not_below i n l = grind (arith, nat_tests)

position_is : (test : Pair → Bool) (xs : List Pair) (i : ℕ) → position_or_len test xs ≡ i → i < length xs → Some i ≡ position test xs
position_is test xs i e l = sym (rw (e, below i (length xs) l) refl)

-- the first that passes stands here
pub found_here :
    (test : Pair → Bool) (xs : List Pair) (i : ℕ) (d : Pair) → position_or_len test xs ≡ i + position_or_len test (drop i xs)
    → i < length xs → test (get_or xs i d) ≡ true → Some i ≡ position test xs
found_here test xs i d so l h =
    let here : position_or_len test (drop i xs) ≡ 0 = ap (position_or_len test) (drop_more xs i d l) ∙ rw h refl in
    position_is test xs i (omega (arith, so, here)) l

-- none is left
pub found_nowhere :
    (test : Pair → Bool) (xs : List Pair) (i : ℕ) → position_or_len test xs ≡ i + position_or_len test (drop i xs) → length xs ≤ i → None ≡ position test xs
found_nowhere test xs i so l =
    let end : position_or_len test (drop i xs) ≡ 0 = ap (position_or_len test) (drop_all i xs l) in
    let past : length xs ≤ position_or_len test xs = omega (arith, so, end, l) in
    sym (rw (not_below (position_or_len test xs) (length xs) past) refl)

-- a pair of the name is taken out
pub record IsOut (n : List ℕ) (xs : List Pair) (i : ℕ) : Type 0 where
  pub within : i ≤ length (remove xs i)
  pub same : take i (remove xs i) ++ without n (drop i (remove xs i)) ≡ take i xs ++ without n (drop i xs)

pub taken_out : (n : List ℕ) (xs : List Pair) (i : ℕ) (d : Pair) → i < length xs → is_named n (get_or xs i d) ≡ true → IsOut n xs i
taken_out n xs i d l h =
    let front : length (take i xs) ≡ i = length-take-le i xs (omega (arith, l)) in
    let count = length-append (take i xs) (drop (suc i) xs) in
    let first : take i (remove xs i) ≡ take i xs = ap (λ k. take k (remove xs i)) (sym front) ∙ take-append_seam (take i xs) (drop (suc i) xs) in
    let rest : drop i (remove xs i) ≡ drop (suc i) xs = ap (λ k. drop k (remove xs i)) (sym front) ∙ drop-append_seam (take i xs) (drop (suc i) xs) in
    let there : without n (drop i xs) ≡ without n (drop (i + 1) xs) = ap (without n) (drop_more xs i d l) ∙ rw h refl in
    let one : suc i ≡ i + 1 = omega arith in
    record {
      within = omega (arith, front, count);
      same = ap (λ (ys : List Pair). ys ++ without n (drop i (remove xs i))) first
          ∙ ap (λ (ys : List Pair). take i xs ++ without n ys) (rest ∙ ap (λ k. drop k xs) one)
          ∙ ap (λ (ys : List Pair). take i xs ++ ys) (sym there);
    }

-- what stands for a missing pair is not looked at within the list
pub same_at : (xs : List Pair) (i : ℕ) (d e : Pair) → i < length xs → get_or xs i d ≡ get_or xs i e
same_at [] i d e l = absurd (omega arith)
same_at (x ∷ xs) zero d e l = refl
same_at (x ∷ xs) (suc i) d e l = same_at xs i d e (omega arith)
