-- Tests, and what follows from them.
use Rattle.std.proofs.Common.{◌≡◌, ◌≤◌, ℕ, Bool, true, false, List, [], ◌∷◌, length, refl, arith}
use Rattle.std.specs.Prelude.{◌||◌, not, ◌&&◌, if◌then◌else◌, position, slice_get, get_or, Some}
use Rattle.std.proofs.lemmas.List.Quantifiers.{position-Some}
use Rattle.std.proofs.lemmas.Option.{slice_get-get_or}

-- what holds of both holds of the one that a test picks
pub of_if : {A : Type 0} (P : A → Type 0) (b : Bool) (p q : A) → (b ≡ true → P p) → (b ≡ false → P q) → P (if b then p else q)
of_if P true p q here there = here refl
of_if P false p q here there = there refl

pub neither : (a b : Bool) → (a || b) ≡ false → (a ≡ false) × (b ≡ false)
neither true b is = absurd (cc)
neither false b is = (refl, is)

pub both_hold : (a b : Bool) → (a && b) ≡ true → (a ≡ true) × (b ≡ true)
both_hold true b is = (refl, is)
both_hold false b is = absurd (cc)

pub is_not : (a : Bool) → not a ≡ true → a ≡ false
is_not true is = absurd (cc)
is_not false is = refl

pub not_true : (a : Bool) → not a ≡ false → a ≡ true
not_true true is = refl
not_true false is = absurd (cc)

pub empty_of : {A : Type 0} (xs : List A) → length xs ≤ 0 → xs ≡ []
empty_of [] short = refl
empty_of (x ∷ xs) short = absurd (omega arith)

-- what stands at the place that a test finds
pub found_at : {A : Type 0} (p : A → Bool) (xs : List A) (i : ℕ) → position p xs ≡ Some i → (x : A) × (slice_get xs i ≡ Some x) × (p x ≡ true)
found_at p [] i is = absurd (cc)
found_at p (y ∷ ys) i is =
    let q = position-Some p (y ∷ ys) i y is in
    (get_or (y ∷ ys) i y, slice_get-get_or (y ∷ ys) i y q.0, q.1)
