-- Sums of costs.
use Rattle.std.proofs.Common.{◌≡◌, ℕ, zero, suc, ◌+◌, ◌<◌, ◌≤◌, Bool, true, false, List, [], ◌∷◌, ◌++◌, length, refl, arith}
use Rattle.std.specs.Prelude.{Some, slice_get, filter, map, remove, cond}
use Rattle.law_rest.specs.Moves.{for_each}

pub for_each-append : {A : Type 0} (c : ℕ) (xs ys : List A) → for_each c (xs ++ ys) ≡ for_each c xs + for_each c ys
for_each-append c [] ys = omega arith
for_each-append c (x ∷ xs) ys = let e = for_each-append c xs ys in omega arith

pub for_each_fewer : {A B : Type 0} (c : ℕ) (xs : List A) (ys : List B) → length xs ≤ length ys → for_each c xs ≤ for_each c ys
for_each_fewer c [] ys few = omega arith
for_each_fewer c (x ∷ xs) [] few = absurd (omega arith)
for_each_fewer c (x ∷ xs) (y ∷ ys) few = let e = for_each_fewer c xs ys (omega arith) in omega arith

-- with one less at least, once less
pub for_each_less : {A B : Type 0} (c : ℕ) (xs : List A) (ys : List B) → length xs < length ys → for_each c xs + c ≤ for_each c ys
for_each_less c xs [] few = absurd (omega arith)
for_each_less c xs (y ∷ ys) few = let e = for_each_fewer c xs ys (omega arith) in omega arith

pub filter_fewer : {A : Type 0} (p : A → Bool) (xs : List A) → length (filter p xs) ≤ length xs
filter_fewer p [] = omega arith
filter_fewer p (x ∷ xs) = by_test (filter_fewer p xs) (p x)
  where
    by_test : length (filter p xs) ≤ length xs → (b : Bool) → length (cond b (x ∷ filter p xs) (filter p xs)) ≤ suc (length xs)
    by_test less true = omega arith
    by_test less false = omega arith

pub length_map : {A B : Type 0} (f : A → B) (xs : List A) → length (map f xs) ≡ length xs
length_map f [] = refl
length_map f (x ∷ xs) = let e = length_map f xs in omega arith

-- one taken out
pub remove_less : {A : Type 0} (c : ℕ) (xs : List A) (k : ℕ) (x : A) → slice_get xs k ≡ Some x → for_each c (remove xs k) + c ≡ for_each c xs
remove_less c [] k x at = absurd (cc)
remove_less c (y ∷ ys) zero x at = omega arith
remove_less c (y ∷ ys) (suc k) x at = let e = remove_less c ys k x at in omega arith
