-- Members that have a number, when one is changed.
use Rattle.std.proofs.Common.{◌≡◌, ℕ, ◌==◌, Bool, true, false, cond, List, [], ◌∷◌, map, Option, None, Some, refl, sym, ap, ◌∙◌, subst, eq-eqb, ne_eqb, ⊎_elim}
use Rattle.std.specs.Option.{option_map}
use Rattle.std.proofs.lemmas.Bool.{eqb-true, cases_eq}
use Rattle.contexts.specs.Keyed.{first_of_number, with_first_changed}

-- where the number is that of a member, or another one
abbrev pub at_number : {A : Type 0} → Bool → (A → A) → A → A
at_number b f x = cond b (f x) x

module _ {A : Type 0} (number : A → ℕ) (k : ℕ) (f : A → A) (keeps : (x : A) → number (f x) ≡ number x) where
  same_at : (b : Bool) (x : A) (xs : List A) → (number x == k) ≡ b → first_of_number number k (with_first_changed number k f xs) ≡ option_map f (first_of_number number k xs) →
      first_of_number number k (cond b (f x ∷ xs) (x ∷ with_first_changed number k f xs)) ≡ option_map f (cond b (Some x) (first_of_number number k xs))
  same_at true x xs is ih = ap (λ c. cond c (Some (f x)) (first_of_number number k xs)) (ap (λ n. n == k) (keeps x) ∙ is)
  same_at false x xs is ih = ap (λ c. cond c (Some x) (first_of_number number k (with_first_changed number k f xs))) is ∙ ih

  pub found_same : (xs : List A) → first_of_number number k (with_first_changed number k f xs) ≡ option_map f (first_of_number number k xs)
  found_same [] = refl
  found_same (x ∷ xs) = same_at (number x == k) x xs refl (found_same xs)

  other_at : (j : ℕ) → (j ≡ k → ⊥) → (b : Bool) (x : A) (xs : List A) → (number x == k) ≡ b → first_of_number number j (with_first_changed number k f xs) ≡ first_of_number number j xs →
      first_of_number number j (cond b (f x ∷ xs) (x ∷ with_first_changed number k f xs)) ≡ cond (number x == j) (Some x) (first_of_number number j xs)
  other_at j apart true x xs is ih =
      let no : (number x == j) ≡ false = ne_eqb (number x) j (λ same. apart (sym same ∙ eqb-true (number x) k is)) in
      ap (λ c. cond c (Some (f x)) (first_of_number number j xs)) (ap (λ n. n == j) (keeps x) ∙ no) ∙ sym (ap (λ c. cond c (Some x) (first_of_number number j xs)) no)
  other_at j apart false x xs is ih = ap (λ o. cond (number x == j) (Some x) o) ih

  pub found_other : (j : ℕ) (xs : List A) → (j ≡ k → ⊥) → first_of_number number j (with_first_changed number k f xs) ≡ first_of_number number j xs
  found_other j [] apart = refl
  found_other j (x ∷ xs) apart = other_at j apart (number x == k) x xs refl (found_other j xs apart)

  mapped_none : (o : Option A) → option_map (at_number false f) o ≡ o
  mapped_none None = refl
  mapped_none (Some x) = refl

  mapped_same : (o : Option A) → option_map f o ≡ option_map (at_number true f) o
  mapped_same None = refl
  mapped_same (Some x) = refl

  pub found_changed : (j : ℕ) (xs : List A) → first_of_number number j (with_first_changed number k f xs) ≡ option_map (at_number (j == k) f) (first_of_number number j xs)
  found_changed j xs = ⊎_elim
      (λ (same : j ≡ k).
      subst (λ i. first_of_number number i (with_first_changed number k f xs) ≡ option_map (at_number (i == k) f) (first_of_number number i xs)) (sym same)
      (found_same xs ∙ mapped_same (first_of_number number k xs) ∙ ap (λ b. option_map (at_number b f) (first_of_number number k xs)) (sym (eq-eqb k k refl))))
      (λ (apart : j ≡ k → ⊥). found_other j xs apart ∙ sym (mapped_none (first_of_number number j xs)) ∙ ap (λ b. option_map (at_number b f) (first_of_number number j xs)) (sym (ne_eqb j k apart)))
      (cases_eq j k)

  -- what a change keeps of each member
  kept_at : {B : Type 0} (g : A → B) → ((x : A) → g (f x) ≡ g x) → (b : Bool) (x : A) (xs : List A) → map g (with_first_changed number k f xs) ≡ map g xs →
      map g (cond b (f x ∷ xs) (x ∷ with_first_changed number k f xs)) ≡ g x ∷ map g xs
  kept_at g same true x xs ih = λ i. same x i ∷ map g xs
  kept_at g same false x xs ih = ap (λ ys. g x ∷ ys) ih

  pub kept : {B : Type 0} (g : A → B) → ((x : A) → g (f x) ≡ g x) → (xs : List A) → map g (with_first_changed number k f xs) ≡ map g xs
  kept g same [] = refl
  kept g same (x ∷ xs) = kept_at g same (number x == k) x xs (kept g same xs)

  kept_in : {B : Type 0} (g : A → B) → ((x : A) → g (f x) ≡ g x) → (b : Bool) (o : Option A) → option_map g (option_map (at_number b f) o) ≡ option_map g o
  kept_in g same b None = refl
  kept_in g same true (Some x) = λ i. Some (same x i)
  kept_in g same false (Some x) = refl

  pub kept_found : {B : Type 0} (g : A → B) → ((x : A) → g (f x) ≡ g x) → (j : ℕ) (xs : List A) → option_map g (first_of_number number j (with_first_changed number k f xs)) ≡ option_map g (first_of_number number j xs)
  kept_found g same j xs = ap (option_map g) (found_changed j xs) ∙ kept_in g same (j == k) (first_of_number number j xs)
