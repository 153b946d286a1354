-- The first member of a list that passes a test.
use Rattle.std.proofs.Common.{◌≡◌, ◌<◌, ◌≤◌, ℕ, zero, suc, ◌+◌, List, [], ◌∷◌, length, Bool, true, false, not, cond, refl, ap, sym, ◌∙◌, subst, arith, Some, None, ◌⊎◌, inl, inr, nat_lt}
use Rattle.std.proofs.lemmas.Bool.Decides.{nat_tests}
use Rattle.std.specs.List.{position, position_or_len}
use Rattle.std.specs.Prelude.{slice_get}

-- none of the first so many passes
abbrev pub Fails : {X : Type 0} → (X → Bool) → List X → ℕ → Type 0
Fails p xs n = (k : ℕ) (x : _) → k < n → slice_get xs k ≡ Some x → p x ≡ false

less_suc : (k n : ℕ) → nat_lt (1 + k) (suc n) ≡ nat_lt k n
less_suc k n = grind (arith, nat_tests)

zero_less : (n : ℕ) → nat_lt 0 (suc n) ≡ true
zero_less n = grind (arith, nat_tests)

pub low_or_high : (k n : ℕ) → k < n ⊎ n ≤ k
low_or_high k n = by (nat_lt k n) refl
  where
    by : (b : Bool) → nat_lt k n ≡ b → k < n ⊎ n ≤ k
    by true is = inl (grind (arith, nat_tests))
    by false is = inr (grind (arith, nat_tests))

module _ {X : Type 0} (p : X → Bool) where
  later : (x : X) (xs : List X) → p x ≡ false → position p (x ∷ xs) ≡ cond (nat_lt (position_or_len p xs) (length xs)) (Some (1 + position_or_len p xs)) None
  later x xs fails =
      let P : Bool → Type 0 = λ b. cond (nat_lt (cond (not b) (1 + position_or_len p xs) 0) (suc (length xs))) (Some (cond (not b) (1 + position_or_len p xs) 0)) None
      ≡ cond (nat_lt (position_or_len p xs) (length xs)) (Some (1 + position_or_len p xs)) None in
      subst P (sym fails) (ap (λ (b : Bool). cond b (Some (1 + position_or_len p xs)) None) (less_suc (position_or_len p xs) (length xs)))

  here : (x : X) (xs : List X) → p x ≡ true → position p (x ∷ xs) ≡ Some 0
  here x xs passes =
      let P : Bool → Type 0 = λ b. cond (nat_lt (cond (not b) (1 + position_or_len p xs) 0) (suc (length xs))) (Some (cond (not b) (1 + position_or_len p xs) 0)) None ≡ Some 0 in
      subst P (sym passes) (ap (λ (b : Bool). cond b (Some 0) None) (zero_less (length xs)))

  moved : (n m : ℕ) (b : Bool) → cond b (Some n) None ≡ Some m → cond b (Some (1 + n)) None ≡ Some (suc m)
  moved n m true is = let same : n ≡ m = (cc) in let one : 1 + n ≡ suc m = omega arith in ap Some one
  moved n m false is = absurd (cc)

  still : (n : ℕ) (b : Bool) → cond b (Some n) None ≡ None → cond b (Some (1 + n)) None ≡ None
  still n true is = absurd (cc)
  still n false is = refl

  pub first_is : (xs : List X) (n : ℕ) (x : X) → Fails p xs n → slice_get xs n ≡ Some x → p x ≡ true → position p xs ≡ Some n
  first_is [] n x fails there passes = absurd (cc)
  first_is (y ∷ ys) zero x fails there passes = here y ys (subst (λ (z : X). p z ≡ true) (cc) passes)
  first_is (y ∷ ys) (suc n) x fails there passes =
      later y ys (fails 0 y (omega arith) refl)
      ∙ moved (position_or_len p ys) n (nat_lt (position_or_len p ys) (length ys)) (first_is ys n x (λ k z less. fails (suc k) z (omega arith)) there passes)

  pub none_is : (xs : List X) → Fails p xs (length xs) → position p xs ≡ None
  none_is [] fails = refl
  none_is (y ∷ ys) fails =
      later y ys (fails 0 y (omega arith) refl)
      ∙ still (position_or_len p ys) (nat_lt (position_or_len p ys) (length ys)) (none_is ys (λ k z less. fails (suc k) z (omega arith)))

  -- one more fails
  pub fails_more : (xs : List X) (n : ℕ) (x : X) → Fails p xs n → slice_get xs n ≡ Some x → p x ≡ false → Fails p xs (n + 1)
  fails_more xs n x fails there passes_not k y less at = by (low_or_high k n)
    where
      by : k < n ⊎ n ≤ k → p y ≡ false
      by (inl low) = fails k y low at
      by (inr high) =
          let same : k ≡ n = omega arith in
          let one : slice_get xs n ≡ Some y = subst (λ (i : ℕ). slice_get xs i ≡ Some y) same at in
          let equal : x ≡ y = (cc) in
          subst (λ (z : X). p z ≡ false) equal passes_not

  -- where none is found, each fails
  pub fails_none : (xs : List X) (k : ℕ) (x : X) → position p xs ≡ None → slice_get xs k ≡ Some x → p x ≡ false
  fails_none [] k x none there = absurd (cc)
  fails_none (y ∷ ys) k x none there = by (λ n. fails_none ys n x) (p y) refl k there
    where
      lower : (n : ℕ) (b : Bool) → cond b (Some (1 + n)) None ≡ None → cond b (Some n) None ≡ None
      lower n true is = absurd (cc)
      lower n false is = refl

      by : ((n : ℕ) → position p ys ≡ None → slice_get ys n ≡ Some x → p x ≡ false) → (b : Bool) → p y ≡ b → (k : ℕ) → slice_get (y ∷ ys) k ≡ Some x → p x ≡ false
      by rest true is k there = let found = here y ys is in absurd (cc)
      by rest false is zero there = let same : y ≡ x = (cc) in subst (λ (z : X). p z ≡ false) same is
      by rest false is (suc k) there =
          rest k (lower (position_or_len p ys) (nat_lt (position_or_len p ys) (length ys)) (sym (later y ys is) ∙ none)) there
