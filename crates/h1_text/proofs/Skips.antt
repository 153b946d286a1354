-- Members that look like no name are passed over: what a test finds among all of them is what it finds among those that are left.
use Rattle.std.proofs.Common.{◌≡◌, ◌<◌, ◌+◌, ◌∷◌, ◌++◌, ◌||◌, ◌&&◌, ◌==◌, ℕ, zero, suc, Bool, true, false, List, [], length, map, drop, get_or, set, not, replicate, reverse, refl, sym, ap, subst, ◌∙◌, arith}
use Rattle.std.specs.Prelude.{slice_index_or}
use Rattle.std.specs.List.{list_any, slice_split, onto_first}
use Rattle.std.proofs.lemmas.Bool.{false≢true}
use Rattle.std.proofs.lemmas.Bool.Decides.{nat_tests}
use Rattle.std.proofs.lemmas.List.{reverse-append, drop-drop}
use Rattle.std.proofs.lemmas.List.Splits.{slice_split-cons_yes, slice_split-cons_no}
use Rattle.http_header.specs.Token.{lowercase}
use Rattle.httparse.specs.Grammar.{is_ows, skip_ows, trim_ows}
use Rattle.h1_model.specs.Fields.{members}
use Rattle.h1_text.specs.declared.wanted.Wanted.{Wanted}
use Rattle.h1_text.specs.Members.{is_comma}
use Rattle.h1_text.specs.Wanted.{first_of, shape_of, begins, HasBlanks, IsLostOn}
use Rattle.h1_text.proofs.Splits.{members-comma, members-no_comma}

-- the members after the first, and whether the test passes on one of them
abbrev pub behind : List (List ℕ) → List (List ℕ)
behind [] = []
behind (m ∷ ms) = ms

abbrev pub left : (List ℕ → Bool) → List ℕ → Bool
left p list = list_any p (behind (members list))

-- ---- how a member begins

record EndsWith (b : ℕ) (xs : List ℕ) : Type 0 where
  pub front : List ℕ
  pub is : xs ≡ front ++ b ∷ []

skip_keeps : (b : ℕ) → is_ows b ≡ false → (xs : List ℕ) → EndsWith b (skip_ows (xs ++ b ∷ []))
skip_keeps b other [] = record { front = []; is = rw other }
skip_keeps b other (x ∷ xs) = by_test (is_ows x) refl (skip_keeps b other xs)
  where
    by_test : (t : Bool) → is_ows x ≡ t → EndsWith b (skip_ows (xs ++ b ∷ [])) → EndsWith b (skip_ows (x ∷ (xs ++ b ∷ [])))
    by_test true e later = rw e later
    by_test false e later = record { front = x ∷ xs; is = rw e }

-- a member begins with the first byte after a comma, where that is no blank
first_trim : (b : ℕ) (h : List ℕ) → is_ows b ≡ false → first_of (trim_ows (b ∷ h)) ≡ b
unfolding trim_ows
first_trim b h other =
    let here : skip_ows (b ∷ h) ≡ b ∷ h = rw other in
    let kept = skip_keeps b other (reverse h) in
    ap (λ (t : List ℕ). first_of (reverse (skip_ows (reverse t)))) here
    ∙ ap (λ (t : List ℕ). first_of (reverse (skip_ows t))) (reverse-append (b ∷ []) h)
    ∙ ap (λ (t : List ℕ). first_of (reverse t)) kept.is
    ∙ ap first_of (reverse-append kept.front (b ∷ []))

trim_none : trim_ows [] ≡ []
unfolding trim_ows
trim_none = refl

record Parts (list : List ℕ) : Type 0 where
  pub first : List ℕ
  pub more : List (List ℕ)
  pub are : slice_split is_comma list ≡ first ∷ more

parts : (list : List ℕ) → Parts list
parts [] = record { first = []; more = []; are = refl }
parts (b ∷ bytes) = by_test (is_comma b) refl (parts bytes)
  where
    by_test : (t : Bool) → is_comma b ≡ t → Parts bytes → Parts (b ∷ bytes)
    by_test true e p = record { first = []; more = slice_split is_comma bytes; are = slice_split-cons_yes is_comma b bytes e }
    by_test false e p =
        record { first = b ∷ p.first; more = p.more; are = slice_split-cons_no is_comma b bytes e ∙ ap (onto_first b) p.are }

-- ---- members that begin as no name does

not_or : (a b : Bool) → not (a || b) ≡ true → (not a ≡ true) × (b ≡ false)
not_or true b h = absurd (false≢true h)
not_or false true h = absurd (false≢true h)
not_or false false h = (refl, refl)

is_false : (a : Bool) → not a ≡ true → a ≡ false
is_false true h = absurd (false≢true h)
is_false false h = refl

-- none of eight tests passes
pub eight : (f : ℕ → Bool) → not (((((((f 0 || f 1) || f 2) || f 3) || f 4) || f 5) || f 6) || f 7) ≡ true → (k : ℕ) → k < 8 → f k ≡ false
eight f h k low =
    let h7 = not_or (((((((f 0 || f 1) || f 2) || f 3) || f 4) || f 5) || f 6)) (f 7) h in
    let h6 = not_or ((((((f 0 || f 1) || f 2) || f 3) || f 4) || f 5)) (f 6) h7.0 in
    let h5 = not_or (((((f 0 || f 1) || f 2) || f 3) || f 4)) (f 5) h6.0 in
    let h4 = not_or ((((f 0 || f 1) || f 2) || f 3)) (f 4) h5.0 in
    let h3 = not_or (((f 0 || f 1) || f 2)) (f 3) h4.0 in
    let h2 = not_or ((f 0 || f 1)) (f 2) h3.0 in
    let h1 = not_or (f 0) (f 1) h2.0 in
    pick (is_false (f 0) h1.0) h1.1 h2.1 h3.1 h4.1 h5.1 h6.1 h7.1 k low
  where
    pick : f 0 ≡ false → f 1 ≡ false → f 2 ≡ false → f 3 ≡ false → f 4 ≡ false → f 5 ≡ false → f 6 ≡ false → f 7 ≡ false → (k : ℕ) → k < 8 → f k ≡ false
    pick a b c d e g h i zero low = a
    pick a b c d e g h i (suc zero) low = b
    pick a b c d e g h i (suc (suc zero)) low = c
    pick a b c d e g h i (suc (suc (suc zero))) low = d
    pick a b c d e g h i (suc (suc (suc (suc zero)))) low = e
    pick a b c d e g h i (suc (suc (suc (suc (suc zero))))) low = g
    pick a b c d e g h i (suc (suc (suc (suc (suc (suc zero)))))) low = h
    pick a b c d e g h i (suc (suc (suc (suc (suc (suc (suc zero))))))) low = i
    pick a b c d e g h i (suc (suc (suc (suc (suc (suc (suc (suc k)))))))) low = absurd (omega arith)

pub in_range : (xs : List Bool) (i : ℕ) → i < length xs → get_or xs i true ≡ get_or xs i false
in_range [] i low = absurd (omega (arith, low))
in_range (x ∷ xs) zero low = refl
in_range (x ∷ xs) (suc i) low = in_range xs i (omega (arith, low))

pub all_true : (n i : ℕ) → get_or (replicate n true) i true ≡ true
all_true zero i = refl
all_true (suc n) zero = refl
all_true (suc n) (suc i) = all_true n i

pub set_true : (xs : List Bool) (i j : ℕ) → get_or xs j true ≡ true → get_or (set xs i true) j true ≡ true
set_true [] i j h = h
set_true (x ∷ xs) zero zero h = refl
set_true (x ∷ xs) zero (suc j) h = h
set_true (x ∷ xs) (suc i) zero h = h
set_true (x ∷ xs) (suc i) (suc j) h = set_true xs i j h

pub set_here : (xs : List Bool) (i : ℕ) → get_or (set xs i true) i true ≡ true
set_here [] i = refl
set_here (x ∷ xs) zero = refl
set_here (x ∷ xs) (suc i) = set_here xs i

pub both : (a b : Bool) → a ≡ true → b ≡ true → (a && b) ≡ true
both a b x y = ap (λ t. t && b) x ∙ y

not_blank : (w : Wanted) → HasBlanks w → (b : ℕ) → slice_index_or w.firsts b true ≡ false → is_ows b ≡ false
not_blank w blanks b other = by_space (b == 32) refl
  where
    by_tab : (t : Bool) → (b == 9) ≡ t → (b == 32) ≡ false → is_ows b ≡ false
    by_tab true e differs =
        let same : b ≡ 9 = grind (arith, nat_tests) in
        absurd (false≢true (sym other ∙ ap (λ n. slice_index_or w.firsts n true) same ∙ blanks.tab))
    by_tab false e differs = ap (λ t. t || (b == 9)) differs ∙ e

    by_space : (t : Bool) → (b == 32) ≡ t → is_ows b ≡ false
    by_space true e =
        let same : b ≡ 32 = grind (arith, nat_tests) in
        absurd (false≢true (sym other ∙ ap (λ n. slice_index_or w.firsts n true) same ∙ blanks.space))
    by_space false e = by_tab (b == 9) refl e

fails : (w : Wanted) (p : List ℕ → Bool) → IsLostOn w p → (m : List ℕ) → begins w m ≡ false → p m ≡ false
fails w p lost m e = lost m (ap (λ t. t && slice_index_or w.shapes (shape_of (lowercase m)) true) e)

-- the first member of a list that begins as no name does is none
pub first_lost : (w : Wanted) (p : List ℕ → Bool) → HasBlanks w → IsLostOn w p → (list : List ℕ) → begins w list ≡ false
    → list_any p (members list) ≡ left p list
first_lost w p blanks lost [] e = ap (λ m. p m || false) trim_none ∙ ap (λ t. t || false) (fails w p lost [] e)
first_lost w p blanks lost (b ∷ bytes) e = by_test (is_comma b) refl
  where
    drop_first : (m : List ℕ) (ms : List (List ℕ)) → members (b ∷ bytes) ≡ m ∷ ms → p m ≡ false → list_any p (members (b ∷ bytes)) ≡ left p (b ∷ bytes)
    drop_first m ms are lost_too =
        ap (list_any p) are ∙ ap (λ t. t || list_any p ms) lost_too ∙ sym (ap (λ xs. list_any p (behind xs)) are)

    by_test : (t : Bool) → is_comma b ≡ t → list_any p (members (b ∷ bytes)) ≡ left p (b ∷ bytes)
    by_test true comma =
        let same : b ≡ 44 = grind (arith, nat_tests) in
        drop_first (trim_ows []) (members bytes) (ap (map trim_ows) (slice_split-cons_yes is_comma b bytes comma))
        (ap p trim_none ∙ fails w p lost [] (ap (λ n. slice_index_or w.firsts n true) (sym same) ∙ e))
    by_test false other =
        let q = parts bytes in
        let are = ap (map trim_ows) (slice_split-cons_no is_comma b bytes other ∙ ap (onto_first b) q.are) in
        let begin = first_trim b q.first (not_blank w blanks b e) in
        drop_first (trim_ows (b ∷ q.first)) (map trim_ows q.more) are
        (fails w p lost (trim_ows (b ∷ q.first)) (ap (λ n. slice_index_or w.firsts n true) begin ∙ e))

-- one byte more is passed over, where the next begins no name
step : (w : Wanted) (p : List ℕ → Bool) → HasBlanks w → IsLostOn w p → (b c : ℕ) (bytes : List ℕ) → slice_index_or w.firsts c true ≡ false
    → left p (b ∷ c ∷ bytes) ≡ left p (c ∷ bytes)
step w p blanks lost b c bytes e = by_test (is_comma b) refl
  where
    by_test : (t : Bool) → is_comma b ≡ t → left p (b ∷ c ∷ bytes) ≡ left p (c ∷ bytes)
    by_test true comma =
        ap (λ xs. list_any p (behind (map trim_ows xs))) (slice_split-cons_yes is_comma b (c ∷ bytes) comma)
        ∙ first_lost w p blanks lost (c ∷ bytes) e
    by_test false other =
        let q = parts (c ∷ bytes) in
        ap (λ xs. list_any p (behind (map trim_ows xs))) (slice_split-cons_no is_comma b (c ∷ bytes) other ∙ ap (onto_first b) q.are)
        ∙ sym (ap (λ xs. list_any p (behind (map trim_ows xs))) q.are)

step_at : (w : Wanted) (p : List ℕ → Bool) → HasBlanks w → IsLostOn w p → (list : List ℕ) (i : ℕ) → suc i < length list
    → slice_index_or w.firsts (get_or list (suc i) 0) true ≡ false → left p (drop i list) ≡ left p (drop (suc i) list)
step_at w p blanks lost [] i low e = absurd (omega arith)
step_at w p blanks lost (b ∷ []) zero low e = absurd (omega arith)
step_at w p blanks lost (b ∷ c ∷ bytes) zero low e = step w p blanks lost b c bytes e
step_at w p blanks lost (b ∷ bytes) (suc i) low e = step_at w p blanks lost bytes i (omega arith) e

-- so many bytes more
pub run_lost : (w : Wanted) (p : List ℕ → Bool) → HasBlanks w → IsLostOn w p → (n : ℕ) (list : List ℕ) (i : ℕ) → i + n < length list
    → ((k : ℕ) → k < n → slice_index_or w.firsts (get_or list (i + 1 + k) 0) true ≡ false) → left p (drop i list) ≡ left p (drop (i + n) list)
run_lost w p blanks lost zero list i low h =
    let same : i ≡ i + 0 = omega arith in
    ap (λ n. left p (drop n list)) same
run_lost w p blanks lost (suc n) list i low h =
    let next : i + 1 + 0 ≡ suc i = omega arith in
    let here = subst (λ m. slice_index_or w.firsts (get_or list m 0) true ≡ false) next (h 0 (omega arith)) in
    let later = λ (k : ℕ) (lt : k < n).
    let same : i + 1 + suc k ≡ suc i + 1 + k = omega arith in
    subst (λ m. slice_index_or w.firsts (get_or list m 0) true ≡ false) same (h (suc k) (omega arith)) in
    let end : suc i + n ≡ i + suc n = omega arith in
    step_at w p blanks lost list i (omega arith) here
    ∙ run_lost w p blanks lost n list (suc i) (omega arith) later
    ∙ ap (λ m. left p (drop m list)) end

-- what is left after the first comma
pub left-comma : (p : List ℕ → Bool) (list : List ℕ) (at j : ℕ) → j < length (drop at list) → is_comma (get_or (drop at list) j 0) ≡ true
    → ((k : ℕ) → k < j → is_comma (get_or (drop at list) k 0) ≡ false)
    → left p (drop at list) ≡ list_any p (members (drop (at + suc j) list))
left-comma p list at j low comma before =
    ap (λ xs. list_any p (behind xs)) (members-comma (drop at list) j low comma (λ k lt is. false≢true (sym (before k lt) ∙ is)))
    ∙ ap (λ rest. list_any p (members rest)) (drop-drop (suc j) at list)

pub left-no_comma : (p : List ℕ → Bool) (list : List ℕ) → ((k : ℕ) → k < length list → is_comma (get_or list k 0) ≡ false) → left p list ≡ false
left-no_comma p list before =
    ap (λ xs. list_any p (behind xs)) (members-no_comma list (λ k lt is. false≢true (sym (before k lt) ∙ is)))
