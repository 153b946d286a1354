-- What is found in a list, and lists of which one element changes, comes or goes.
use Rattle.std.proofs.Common.{◌≡◌, ℕ, zero, suc, ◌+◌, ◌<◌, ◌≤◌, Bool, true, false, not, cond, ◌⊎◌, inl, inr, List, [], ◌∷◌, length, refl, ap, ◌∙◌, sym, one-add, arith}
use Rattle.std.proofs.lemmas.Bool.Decides.{leb_tells}
use Rattle.std.specs.Prelude.{None, Some, option_map, slice_get, slice_set, position, nat_lt, find, insert, remove}
use Rattle.std.specs.List.{position_or_len}
use Prim.Native.Nat.compare

lt_zero : (m : ℕ) → nat_lt 0 (suc m) ≡ true
lt_zero m = by_test (leb_tells 1 (suc m))
  where
    by_test : ((nat_lt 0 (suc m) ≡ true) × (1 ≤ suc m)) ⊎ ((nat_lt 0 (suc m) ≡ false) × (suc m < 1)) → nat_lt 0 (suc m) ≡ true
    by_test (inl is) = is.0
    by_test (inr other) = let never : ⊥ = omega (arith, other.1) in absurd never

pos_if : (b : Bool) (k m : ℕ) → cond (nat_lt (cond (not b) (1 + k) 0) (suc m)) (Some (cond (not b) (1 + k) 0)) None ≡ cond b (Some 0) (option_map (λ (n : ℕ). suc n) (cond (nat_lt k m) (Some k) None))
pos_if true k m = ap (λ b. cond b (Some 0) None) (lt_zero m)
pos_if false k m = rw (one-add, compare.suc-suc) (by_lt (nat_lt k m))
  where
    by_lt : (c : Bool) → cond c (Some (suc k)) None ≡ option_map (λ (n : ℕ). suc n) (cond c (Some k) None)
    by_lt true = refl
    by_lt false = refl

position_cons : {X : Type 0} (p : X → Bool) (x : X) (xs : List X) → position p (x ∷ xs) ≡ cond (p x) (Some 0) (option_map (λ (n : ℕ). suc n) (position p xs))
position_cons p x xs = pos_if (p x) (position_or_len p xs) (length xs)

-- ---- the first place

-- nothing passes; or the element at the first place does
pub data Seeks {X : Type 0} (p : X → Bool) (xs : List X) : Type 0 where
  missing : position p xs ≡ None → find p xs ≡ None → Seeks p xs
  first : (k : ℕ) (x : X) → position p xs ≡ Some k → slice_get xs k ≡ Some x → p x ≡ true → find p xs ≡ Some x → Seeks p xs

pub seeks : {X : Type 0} (p : X → Bool) (xs : List X) → Seeks p xs
seeks p [] = missing refl refl
seeks {X} p (x ∷ xs) = by_test (p x) refl (seeks p xs)
  where
    by_test : (b : Bool) → p x ≡ b → Seeks p xs → Seeks p (x ∷ xs)
    by_test true is later = first 0 x (position_cons p x xs ∙ ap (λ c. cond c (Some 0) (option_map (λ (n : ℕ). suc n) (position p xs))) is) refl is (ap (λ c. cond c (Some x) (find p xs)) is)
    by_test false is (missing at none) =
        missing (position_cons p x xs ∙ (ap (λ c. cond c (Some 0) (option_map (λ (n : ℕ). suc n) (position p xs))) is ∙ ap (option_map (λ (n : ℕ). suc n)) at))
        (ap (λ c. cond c (Some x) (find p xs)) is ∙ none)
    by_test false is (first k y at there passes found) =
        first (suc k) y (position_cons p x xs ∙ (ap (λ c. cond c (Some 0) (option_map (λ (n : ℕ). suc n) (position p xs))) is ∙ ap (option_map (λ (n : ℕ). suc n)) at)) there passes
        (ap (λ c. cond c (Some x) (find p xs)) is ∙ found)

-- ---- one that passes at most

abbrev pub IsOnce : {X : Type 0} → (X → Bool) → List X → Type 0
IsOnce p [] = Unit {0}
IsOnce p (x ∷ xs) = (p x ≡ true → find p xs ≡ None) × IsOnce p xs

cons_found : {X : Type 0} (p : X → Bool) (x : X) (xs : List X) (b : Bool) → p x ≡ b → find p (x ∷ xs) ≡ cond b (Some x) (find p xs)
cons_found p x xs b is = ap (λ c. cond c (Some x) (find p xs)) is

-- the element at a place, which does not pass, became one that does not either
pub set_other : {X : Type 0} (p : X → Bool) (xs : List X) (k : ℕ) (x y : X) → slice_get xs k ≡ Some x → p x ≡ false → p y ≡ false → find p (slice_set xs k y) ≡ find p xs
set_other p [] k x y at old new = absurd (cc)
set_other p (z ∷ xs) zero x y at old new =
    let same : z ≡ x = cc in cons_found p y xs false new ∙ sym (cons_found p z xs false (ap p same ∙ old))
set_other p (z ∷ xs) (suc k) x y at old new = ap (cond (p z) (Some z)) (set_other p xs k x y at old new)

-- the one that passes, at its place, is the one that is found
pub only_found : {X : Type 0} (p : X → Bool) (xs : List X) (k : ℕ) (x : X) → IsOnce p xs → slice_get xs k ≡ Some x → p x ≡ true → find p xs ≡ Some x
only_found p [] k x once at passes = absurd (cc)
only_found p (z ∷ xs) zero x once at passes = let same : z ≡ x = cc in cons_found p z xs true (ap p same ∙ passes) ∙ ap Some same
only_found {X} p (z ∷ xs) (suc k) x once at passes = by_test (only_found p xs k x once.1 at passes) (p z) refl
  where
    by_test : find p xs ≡ Some x → (b : Bool) → p z ≡ b → find p (z ∷ xs) ≡ Some x
    by_test later true is = let none : find p xs ≡ None = once.0 is in absurd (cc)
    by_test later false is = cons_found p z xs false is ∙ later

-- and another that passes stands there then
pub set_once : {X : Type 0} (p : X → Bool) (xs : List X) (k : ℕ) (x y : X) → IsOnce p xs → slice_get xs k ≡ Some x → p y ≡ p x → IsOnce p (slice_set xs k y)
set_once p [] k x y once at same = once
set_once p (z ∷ xs) zero x y once at same = let is : z ≡ x = cc in ((λ e. once.0 (ap p is ∙ (sym same ∙ e))), once.1)
set_once {X} p (z ∷ xs) (suc k) x y once at same = (λ e. none e, set_once p xs k x y once.1 at same)
  where
    none : p z ≡ true → find p (slice_set xs k y) ≡ None
    none e = by_test (p x) refl
      where
        by_test : (b : Bool) → p x ≡ b → find p (slice_set xs k y) ≡ None
        by_test true is = let there : find p xs ≡ Some x = only_found p xs k x once.1 at is in let gone : find p xs ≡ None = once.0 e in absurd (cc)
        by_test false is = set_other p xs k x y at is (same ∙ is) ∙ once.0 e

pub set_there : {X : Type 0} (xs : List X) (k : ℕ) (x y : X) → slice_get xs k ≡ Some x → slice_get (slice_set xs k y) k ≡ Some y
set_there [] k x y at = absurd (cc)
set_there (z ∷ xs) zero x y at = refl
set_there (z ∷ xs) (suc k) x y at = set_there xs k x y at

-- ---- one comes

pub insert_other : {X : Type 0} (p : X → Bool) (xs : List X) (k : ℕ) (x : X) → p x ≡ false → find p (insert xs k x) ≡ find p xs
insert_other p xs zero x is = cons_found p x xs false is
insert_other p [] (suc k) x is = cons_found p x [] false is
insert_other p (z ∷ xs) (suc k) x is = ap (cond (p z) (Some z)) (insert_other p xs k x is)

pub insert_found : {X : Type 0} (p : X → Bool) (xs : List X) (k : ℕ) (x : X) → find p xs ≡ None → p x ≡ true → find p (insert xs k x) ≡ Some x
insert_found p xs zero x none is = cons_found p x xs true is
insert_found p [] (suc k) x none is = cons_found p x [] true is
insert_found {X} p (z ∷ xs) (suc k) x none is = by_test (λ e. insert_found p xs k x e is) (p z) refl
  where
    by_test : (find p xs ≡ None → find p (insert xs k x) ≡ Some x) → (b : Bool) → p z ≡ b → find p (insert (z ∷ xs) (suc k) x) ≡ Some x
    by_test go true e = let some : find p (z ∷ xs) ≡ Some z = cons_found p z xs true e in absurd (cc)
    by_test go false e = cons_found p z (insert xs k x) false e ∙ go (sym (cons_found p z xs false e) ∙ none)

pub insert_once : {X : Type 0} (p : X → Bool) (xs : List X) (k : ℕ) (x : X) → IsOnce p xs → (p x ≡ true → find p xs ≡ None) → IsOnce p (insert xs k x)
insert_once p xs zero x once new = (new, once)
insert_once p [] (suc k) x once new = (λ e. refl, tt)
insert_once {X} p (z ∷ xs) (suc k) x once new = (λ e. by_test e (p x) refl, insert_once p xs k x once.1 (λ e. by_head e (p z) refl))
  where
    by_head : p x ≡ true → (b : Bool) → p z ≡ b → find p xs ≡ None
    by_head e true is = once.0 is
    by_head e false is = sym (cons_found p z xs false is) ∙ new e

    by_test : p z ≡ true → (b : Bool) → p x ≡ b → find p (insert xs k x) ≡ None
    by_test e true is = let some : find p (z ∷ xs) ≡ Some z = cons_found p z xs true e in let none : find p (z ∷ xs) ≡ None = new is in absurd (cc)
    by_test e false is = insert_other p xs k x is ∙ once.0 e

-- ---- one goes

pub remove_other : {X : Type 0} (p : X → Bool) (xs : List X) (k : ℕ) (x : X) → slice_get xs k ≡ Some x → p x ≡ false → find p (remove xs k) ≡ find p xs
remove_other p [] k x at is = absurd (cc)
remove_other p (z ∷ xs) zero x at is = let same : z ≡ x = cc in sym (cons_found p z xs false (ap p same ∙ is))
remove_other p (z ∷ xs) (suc k) x at is = ap (cond (p z) (Some z)) (remove_other p xs k x at is)

pub remove_found : {X : Type 0} (p : X → Bool) (xs : List X) (k : ℕ) (x : X) → IsOnce p xs → slice_get xs k ≡ Some x → p x ≡ true → find p (remove xs k) ≡ None
remove_found p [] k x once at is = absurd (cc)
remove_found p (z ∷ xs) zero x once at is = let same : z ≡ x = cc in once.0 (ap p same ∙ is)
remove_found {X} p (z ∷ xs) (suc k) x once at is = by_test (remove_found p xs k x once.1 at is) (p z) refl
  where
    by_test : find p (remove xs k) ≡ None → (b : Bool) → p z ≡ b → find p (remove (z ∷ xs) (suc k)) ≡ None
    by_test later true e = let some : find p xs ≡ Some x = only_found p xs k x once.1 at is in let none : find p xs ≡ None = once.0 e in absurd (cc)
    by_test later false e = cons_found p z (remove xs k) false e ∙ later

pub remove_once : {X : Type 0} (p : X → Bool) (xs : List X) (k : ℕ) (x : X) → IsOnce p xs → slice_get xs k ≡ Some x → IsOnce p (remove xs k)
remove_once p [] k x once at = absurd (cc)
remove_once p (z ∷ xs) zero x once at = once.1
remove_once {X} p (z ∷ xs) (suc k) x once at = (λ e. by_test e (p x) refl, remove_once p xs k x once.1 at)
  where
    by_test : p z ≡ true → (b : Bool) → p x ≡ b → find p (remove xs k) ≡ None
    by_test e true is = remove_found p xs k x once.1 at is
    by_test e false is = remove_other p xs k x at is ∙ once.0 e
