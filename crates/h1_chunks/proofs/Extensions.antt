-- More of a size line's extensions.
use Rattle.std.proofs.Common.{◌≡◌, ℕ, zero, suc, ◌+◌, ◌<◌, Bool, true, false, List, [], ◌∷◌, ◌++◌, length, take, drop, Option, None, Some, nat_lt, refl, sym, ap, ◌∙◌, arith, length-append}
use Rattle.std.proofs.lemmas.Bool.{false≢true, cond-false, and_parts, and_from, ne_eqb}
use Rattle.std.proofs.lemmas.Bool.Decides.{nat_tests}
use Rattle.std.proofs.lemmas.List.{take-append-le, drop-append-le}
use Rattle.std.proofs.lemmas.List.Folds.{list_all-append, prefix_len-append, length-prefix_len}
use Rattle.std.specs.List.{list_all, prefix_len, take_while}
use Rattle.std.specs.Prelude.{◌==◌, if◌then◌else◌}
use Rattle.std.specs.Char.{is_ascii_hexdigit}
use Rattle.httparse.specs.Grammar.{is_ows, skip_ows}
use Rattle.h1_model.specs.Chunks.{is_before_end, is_no_line_end, are_extensions, number_of_digits, size_told, told_step, front_step, front_of, size_step, size_open, no_size, size_line_limit, size_line, inside, behind_size, sought_after}
use Rattle.h1_chunks.specs.Waits.{extends, IsExtending, IsWithinSize}

-- both tests pass on each
both_all : (more : List ℕ) → list_all extends more ≡ true → (list_all is_before_end more ≡ true) × (list_all is_no_line_end more ≡ true)
both_all [] h = (refl, refl)
both_all (b ∷ more) h =
    let parts = and_parts (extends b) (list_all extends more) h in
    let here = and_parts (is_before_end b) (is_no_line_end b) parts.0 in
    let later = both_all more parts.1 in (
      and_from (is_before_end b) (list_all is_before_end more) here.0 later.0,
      and_from (is_no_line_end b) (list_all is_no_line_end more) here.1 later.1,
    )

-- a text of which each byte passes is its own front
whole_front : (p : ℕ → Bool) (xs : List ℕ) → list_all p xs ≡ true → take_while p xs ≡ xs
whole_front p [] h = refl
whole_front p (x ∷ xs) h = by_test (p x) refl (and_parts (p x) (list_all p xs) h) (whole_front p xs)
  where
    by_test : (t : Bool) → p x ≡ t → (p x ≡ true) × (list_all p xs ≡ true) → (list_all p xs ≡ true → take_while p xs ≡ xs) → take_while p (x ∷ xs) ≡ x ∷ xs
    by_test true e parts later =
        let more : 1 + prefix_len p xs ≡ suc (prefix_len p xs) = omega arith in
        rw e (ap (λ n. take n (x ∷ xs)) more ∙ ap (λ (t : List ℕ). x ∷ t) (later parts.1))
    by_test false e parts later = absurd (false≢true (sym e ∙ parts.0))

blanks_more : (xs more e : List ℕ) (x : ℕ) → skip_ows xs ≡ x ∷ e → skip_ows (xs ++ more) ≡ x ∷ (e ++ more)
blanks_more [] more e x h = absurd (let bad : [] ≡ x ∷ e = h in cc)
blanks_more (b ∷ xs) more e x h = by_test (is_ows b) refl (blanks_more xs more e x)
  where
    by_test : (t : Bool) → is_ows b ≡ t → (skip_ows xs ≡ x ∷ e → skip_ows (xs ++ more) ≡ x ∷ (e ++ more)) → skip_ows (b ∷ (xs ++ more)) ≡ x ∷ (e ++ more)
    by_test true is later =
        let here : skip_ows (b ∷ xs) ≡ skip_ows xs = rw is in
        let there : skip_ows (b ∷ (xs ++ more)) ≡ skip_ows (xs ++ more) = rw is in
        there ∙ later (sym here ∙ h)
    by_test false is later =
        let here : skip_ows (b ∷ xs) ≡ b ∷ xs = rw is in
        let there : skip_ows (b ∷ (xs ++ more)) ≡ b ∷ (xs ++ more) = rw is in
        there ∙ ap (λ (t : List ℕ). t ++ more) (sym here ∙ h)

extensions_more : (x : ℕ) (e more : List ℕ) → are_extensions (x ∷ e) ≡ true → list_all is_no_line_end more ≡ true → are_extensions (x ∷ (e ++ more)) ≡ true
extensions_more x e more h more_all =
    let parts = and_parts (x == 59) (list_all is_no_line_end e) h in
    and_from (x == 59) (list_all is_no_line_end (e ++ more)) parts.0
    (list_all-append is_no_line_end e more ∙ and_from (list_all is_no_line_end e) (list_all is_no_line_end more) parts.1 more_all)

if_extensions : (b : Bool) (o : Option ℕ) (n : ℕ) → (if b then o else None) ≡ Some n → (b ≡ true) × (o ≡ Some n)
if_extensions true o n h = (refl, h)
if_extensions false o n h = absurd (let bad : None ≡ Some n = h in cc)

-- the size that a line tells stays under more extensions
told_more : (line more e : List ℕ) (x n : ℕ) → skip_ows (drop (prefix_len is_ascii_hexdigit line) line) ≡ x ∷ e → size_told line ≡ Some n
    → list_all is_no_line_end more ≡ true → size_told (line ++ more) ≡ Some n
told_more line more e x n rest told more_all =
    let k = prefix_len is_ascii_hexdigit line in
    let some : k < length line = by_len k line rest in
    let count : prefix_len is_ascii_hexdigit (line ++ more) ≡ k =
    prefix_len-append is_ascii_hexdigit line more ∙ cond-false _ _ _ (ne_eqb k (length line) (λ same. omega (arith, some, same))) in
    let digits : take_while is_ascii_hexdigit (line ++ more) ≡ take_while is_ascii_hexdigit line =
    ap (λ i. take i (line ++ more)) count ∙ take-append-le k line more (omega (arith, some)) in
    let len : length (take_while is_ascii_hexdigit line) ≡ k = length-prefix_len is_ascii_hexdigit line in
    let old : skip_ows (drop (length (take_while is_ascii_hexdigit line)) line) ≡ x ∷ e = ap (λ i. skip_ows (drop i line)) len ∙ rest in
    let new : skip_ows (drop (length (take_while is_ascii_hexdigit (line ++ more))) (line ++ more)) ≡ x ∷ (e ++ more) =
    ap (λ (d : List ℕ). skip_ows (drop (length d) (line ++ more))) digits
    ∙ ap (λ i. skip_ows (drop i (line ++ more))) len
    ∙ ap skip_ows (drop-append-le k line more (omega (arith, some)))
    ∙ blanks_more (drop k line) more e x rest in
    let parts = if_extensions (are_extensions (x ∷ e)) (number_of_digits (take_while is_ascii_hexdigit line)) n
    (sym (ap (λ (t : List ℕ). if are_extensions t then number_of_digits (take_while is_ascii_hexdigit line) else None) old) ∙ told) in
    ap (λ (t : List ℕ). if are_extensions t then number_of_digits (take_while is_ascii_hexdigit (line ++ more)) else None) new
    ∙ ap (λ b. if b then number_of_digits (take_while is_ascii_hexdigit (line ++ more)) else None) (extensions_more x e more parts.0 more_all)
    ∙ ap number_of_digits digits ∙ parts.1
  where
    by_len : (k : ℕ) (line : List ℕ) → skip_ows (drop k line) ≡ x ∷ e → k < length line
    by_len zero [] h = absurd (let bad : [] ≡ x ∷ e = h in cc)
    by_len (suc k) [] h = absurd (let bad : [] ≡ x ∷ e = h in cc)
    by_len zero (b ∷ line) h = omega arith
    by_len (suc k) (b ∷ line) h = omega (arith, by_len k line h)

-- a line that tells its size, with a byte after its blanks and without CR
pub extending : (line rest : List ℕ) {n : ℕ} → rest ≡ skip_ows (drop (prefix_len is_ascii_hexdigit line) line) → 0 < length rest
    → size_told line ≡ Some n → list_all is_before_end line ≡ true → IsExtending line
extending line [] is some told before more more_all room = absurd (omega (arith, some))
extending line (x ∷ e) {n} is some told before more more_all room =
    let all = both_all more more_all in
    let text = line ++ more in
    let none_ends : list_all is_before_end text ≡ true =
    list_all-append is_before_end line more ∙ and_from (list_all is_before_end line) (list_all is_before_end more) before all.0 in
    let front : front_of text ≡ text = whole_front is_before_end text none_ends in
    let told_all : size_told text ≡ Some n = told_more line more e x n (sym is) told all.1 in
    let len : length text ≡ length line + length more = length-append line more in
    let short : nat_lt size_line_limit (length text + 2) ≡ false = grind (arith, nat_tests) in
    by_len text refl front told_all short
  where
    by_len : (text : List ℕ) → line ++ more ≡ text → front_of text ≡ text → size_told text ≡ Some n → nat_lt size_line_limit (length text + 2) ≡ false
        → size_step text ≡ size_open
    by_len [] same front told_all short = refl
    by_len (b ∷ bytes) same front told_all short =
        cond-false _ _ _ (ne_eqb (length (b ∷ bytes)) 0 (λ none. omega (arith, none)))
        ∙ ap (λ (t : List ℕ). front_step t (drop (length t) (b ∷ bytes))) front
        ∙ ap (front_step (b ∷ bytes)) (drop_whole (b ∷ bytes))
        ∙ ap (λ t. if t then no_size else told_step (size_told (b ∷ bytes)) (length (b ∷ bytes)) []) short
        ∙ ap (λ o. told_step o (length (b ∷ bytes)) []) told_all
      where
        drop_whole : (xs : List ℕ) → drop (length xs) xs ≡ []
        drop_whole [] = refl
        drop_whole (y ∷ ys) = drop_whole ys

-- the same from the two places where a size line is due
pub within_line : (text : List ℕ) → IsExtending text → IsWithinSize size_line text
within_line text h more all room = ap (behind_size (text ++ more)) (h more all room)

pub within_inside : (text : List ℕ) → IsExtending text → IsWithinSize (inside 0) (13 ∷ 10 ∷ text)
within_inside text h more all room = ap (λ s. sought_after 2 (behind_size (text ++ more) s)) (h more all (omega (arith, room)))
