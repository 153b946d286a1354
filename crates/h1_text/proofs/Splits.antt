-- Lemmas on lists, and on the members of a value.
use Rattle.std.proofs.Common.{◌≡◌, ℕ, zero, suc, ◌+◌, ◌<◌, ◌≤◌, nat_lt, Bool, true, false, ◌||◌, List, [], ◌∷◌, map, length, take, drop, get_or, refl, ap, arith}
use Rattle.std.proofs.lemmas.Bool.{false_from_ne_true}
use Rattle.std.proofs.lemmas.Bool.Decides.{nat_tests}
use Rattle.std.proofs.lemmas.List.{length-map}
use Rattle.std.proofs.lemmas.List.Splits.{length-slice_split}
use Rattle.std.specs.List.{list_any, slice_split}
use Rattle.httparse.specs.Grammar.{trim_ows}
use Rattle.h1_model.specs.Fields.{members}
use Rattle.h1_text.specs.Members.{is_comma}

pub list_any-map : {X Y : Type 0} (p : Y → Bool) (f : X → Y) (xs : List X) → list_any p (map f xs) ≡ list_any (λ x. p (f x)) xs
list_any-map p f [] = refl
list_any-map p f (x ∷ xs) = ap (λ b. p (f x) || b) (list_any-map p f xs)

pub split-no_comma : (text : List ℕ) → ((k : ℕ) → k < length text → is_comma (get_or text k 0) ≡ true → ⊥)
    → slice_split is_comma text ≡ text ∷ []
split-no_comma [] h = refl
split-no_comma (b ∷ bytes) h =
    let other : is_comma b ≡ false = false_from_ne_true _ (h 0 (omega arith)) in
    let later : slice_split is_comma bytes ≡ bytes ∷ [] = split-no_comma bytes (λ k lt. h (suc k) (omega arith)) in
    rw (other, later)

pub split-comma : (text : List ℕ) (i : ℕ) → i < length text → is_comma (get_or text i 0) ≡ true
    → ((k : ℕ) → k < i → is_comma (get_or text k 0) ≡ true → ⊥)
    → slice_split is_comma text ≡ take i text ∷ slice_split is_comma (drop (suc i) text)
split-comma [] i lt at before = absurd (omega arith)
split-comma (b ∷ bytes) zero lt at before = rw at
split-comma (b ∷ bytes) (suc i) lt at before =
    let other : is_comma b ≡ false = false_from_ne_true _ (before 0 (omega arith)) in
    let later : slice_split is_comma bytes ≡ take i bytes ∷ slice_split is_comma (drop (suc i) bytes) =
    split-comma bytes i (omega arith) at (λ k lt. before (suc k) (omega arith)) in
    rw (other, later)

pub members-no_comma : (text : List ℕ) → ((k : ℕ) → k < length text → is_comma (get_or text k 0) ≡ true → ⊥)
    → members text ≡ trim_ows text ∷ []
members-no_comma text h = ap (map trim_ows) (split-no_comma text h)

pub members-comma : (text : List ℕ) (i : ℕ) → i < length text → is_comma (get_or text i 0) ≡ true
    → ((k : ℕ) → k < i → is_comma (get_or text k 0) ≡ true → ⊥)
    → members text ≡ trim_ows (take i text) ∷ members (drop (suc i) text)
members-comma text i lt at before = ap (map trim_ows) (split-comma text i lt at before)

-- a value has a member at least
pub members_some : (text : List ℕ) → 0 < length (members text)
members_some text = omega (arith, length-map (slice_split is_comma text) trim_ows, length-slice_split is_comma text)

-- one of more than four
pub past_four : (count n m left : ℕ) → 4 ≤ count + 1 → count + n ≡ m → n ≡ suc left → 0 < left → true ≡ nat_lt 4 m
past_four count n m left enough is more some = grind (arith, nat_tests)
