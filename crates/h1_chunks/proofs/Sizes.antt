-- Lemmas on size lines.
use Rattle.std.proofs.Common.{◌≡◌, ℕ, zero, suc, ◌+◌, ◌*◌, ◌<◌, ◌≤◌, Bool, true, false, not, eqb, List, [], ◌∷◌, length, take, drop, get_or, None, refl, sym, ap, ◌∙◌, arith}
use Rattle.std.proofs.lemmas.Bool.{cond-true, cond-false, and_from, and_right, lt-leb, ne_eqb, eq-eqb, false_from_ne_true}
use Rattle.std.proofs.lemmas.List.{take-append-drop}
use Rattle.std.proofs.lemmas.List.Folds.{prefix_len-append, length-prefix_len}
use Rattle.std.specs.List.{list_all, prefix_len}
use Rattle.std.specs.Char.{digit_value}
use Rattle.std.specs.Str.Parse.{digits_value_after, digits_value}
use Rattle.h1_model.specs.Length.{length_limit}
use Rattle.h1_model.specs.Chunks.{number_of_digits, is_before_end, front_of}

-- more digits write no smaller number
pub digits_value_after-grows : (n : ℕ) (ds : List ℕ) → n ≤ digits_value_after 16 n ds
digits_value_after-grows n [] = omega arith
digits_value_after-grows n (d ∷ ds) = omega (arith, digits_value_after-grows (n * 16 + digit_value d) ds)

pub number_of_digits-large : (digits : List ℕ) → length_limit < digits_value 16 digits → number_of_digits digits ≡ None
number_of_digits-large digits large =
    cond-false _ _ _ (and_right _ _ (lt-leb (digits_value 16 digits) length_limit large))

-- the front that passes a test passes it
pub list_all-prefix : (p : ℕ → Bool) (xs : List ℕ) → list_all p (take (prefix_len p xs) xs) ≡ true
list_all-prefix p [] = refl
list_all-prefix p (x ∷ xs) = by_test (list_all-prefix p xs) (p x) refl
  where
    by_test : list_all p (take (prefix_len p xs) xs) ≡ true → (b : Bool) → p x ≡ b
        → list_all p (take (prefix_len p (x ∷ xs)) (x ∷ xs)) ≡ true
    by_test later true is =
        let more : 1 + prefix_len p xs ≡ suc (prefix_len p xs) = omega arith in
        let len : prefix_len p (x ∷ xs) ≡ suc (prefix_len p xs) = cond-true (p x) (1 + prefix_len p xs) 0 is ∙ more in
        ap (λ n. list_all p (take n (x ∷ xs))) len ∙ and_from _ _ is later
    by_test later false is = ap (λ n. list_all p (take n (x ∷ xs))) (cond-false (p x) (1 + prefix_len p xs) 0 is)

-- ---- the front of a line

prefix_found : (w : List ℕ) (i : ℕ) → i < length w → eqb (get_or w i 0) 13 ≡ true
    → ((k : ℕ) → k < i → eqb (get_or w k 0) 13 ≡ true → ⊥) → prefix_len is_before_end w ≡ i
prefix_found [] i lt at before = absurd (omega arith)
prefix_found (b ∷ bytes) zero lt at before = cond-false _ _ _ (ap not at)
prefix_found (b ∷ bytes) (suc i) lt at before =
    let other : eqb b 13 ≡ false = false_from_ne_true _ (before 0 (omega arith)) in
    let later : prefix_len is_before_end bytes ≡ i = prefix_found bytes i (omega arith) at (λ k lt. before (suc k) (omega arith)) in
    cond-true _ _ _ (ap not other) ∙ omega arith

prefix_all : (w : List ℕ) → ((k : ℕ) → k < length w → eqb (get_or w k 0) 13 ≡ true → ⊥) → prefix_len is_before_end w ≡ length w
prefix_all [] none = refl
prefix_all (b ∷ bytes) none =
    let other : eqb b 13 ≡ false = false_from_ne_true _ (none 0 (omega arith)) in
    let later : prefix_len is_before_end bytes ≡ length bytes = prefix_all bytes (λ k lt. none (suc k) (omega arith)) in
    cond-true _ _ _ (ap not other) ∙ omega arith

-- a CR in a window of the text
pub front_found : (text : List ℕ) (n i : ℕ) → i < length (take n text) → eqb (get_or (take n text) i 0) 13 ≡ true
    → ((k : ℕ) → k < i → eqb (get_or (take n text) k 0) 13 ≡ true → ⊥) → front_of text ≡ take i text
front_found text n i lt at before =
    let here = prefix_found (take n text) i lt at before in
    let inside : eqb (prefix_len is_before_end (take n text)) (length (take n text)) ≡ false =
    ne_eqb _ _ (λ e. omega (arith, here)) in
    let len : prefix_len is_before_end text ≡ i =
    ap (prefix_len is_before_end) (sym (take-append-drop n text))
    ∙ prefix_len-append is_before_end (take n text) (drop n text) ∙ cond-false _ _ _ inside ∙ here in
    ap (λ k. take k text) len

-- no CR in a text
pub front_all : (text : List ℕ) → ((k : ℕ) → k < length text → eqb (get_or text k 0) 13 ≡ true → ⊥) → front_of text ≡ take (length text) text
front_all text none = ap (λ k. take k text) (prefix_all text none)

-- no CR in a window of the text
pub front_long : (text : List ℕ) (n : ℕ) → ((k : ℕ) → k < length (take n text) → eqb (get_or (take n text) k 0) 13 ≡ true → ⊥)
    → length (take n text) ≤ length (front_of text)
front_long text n none =
    let here = prefix_all (take n text) none in
    let all : eqb (prefix_len is_before_end (take n text)) (length (take n text)) ≡ true = eq-eqb _ _ here in
    let len : prefix_len is_before_end text ≡ length (take n text) + prefix_len is_before_end (drop n text) =
    ap (prefix_len is_before_end) (sym (take-append-drop n text))
    ∙ prefix_len-append is_before_end (take n text) (drop n text) ∙ cond-true _ _ _ all in
    omega (arith, len, length-prefix_len is_before_end text)
