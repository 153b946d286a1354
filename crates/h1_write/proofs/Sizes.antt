-- The digits of a size.
use Rattle.std.proofs.Common.{◌≡◌, ℕ, zero, suc, ◌+◌, zero-add, take, drop, None, Some, ◌/◌, ◌%◌, ◌^◌, ◌<◌, ◌≤◌, Bool, true, false, cond, eqb, ltb, List, [], ◌∷◌, ◌++◌, map, length, refl, sym, ap, ◌∙◌, append_assoc, arith, pow-suc}
use Rattle.std.proofs.lemmas.Bool.{eqb-true, eqb-false, ltb-true, ltb-false, lt-ltb, le-ltb, le-leb, ne_eqb, and_from, and_parts, cond-true, cond-false}
use Rattle.std.proofs.lemmas.Bool.Decides.{nat_tests}
use Rattle.std.proofs.lemmas.Fmt.{digits_is_IsNumeral}
use Rattle.std.proofs.lemmas.List.{map_push, append-nil, length-map, length-append, take_all, drop_all}
use Rattle.std.proofs.Math.Seq.{drop-append_seam, take-append_seam}
use Rattle.std.proofs.lemmas.Int.Digits.{digits_of_step, length-digits_of-le, all_below_base_digits_of}
use Rattle.std.specs.Char.{is_ascii_hexdigit}
use Rattle.std.specs.Int.Digits.{digits_of, AllBelowBase}
use Rattle.std.specs.Fmt.{digits, digits_onto}
use Rattle.std.specs.List.{list_all, prefix_len, take_while}
use Rattle.std.specs.Str.Parse.{digits_value}
use Rattle.h1_model.specs.ChunkWire.{hex_digit, hex_text}
use Rattle.std.specs.Prelude.{nat_lt}
use Rattle.httparse.specs.Grammar.{skip_ows}
use Rattle.h1_model.specs.Length.{length_limit}
use Rattle.h1_model.specs.Chunks.{is_before_end, front_of, number_of_digits, are_extensions, size_told, told_step, front_step, sized, size_step}

-- the last digit of a number stands after those in front of it
hex_push : (n : ℕ) → 0 < n → hex_text n ≡ hex_text (n / 16) ++ hex_digit (n % 16) ∷ []
hex_push n some = ap (map hex_digit) (digits_of_step 16 n (omega arith) some) ∙ map_push hex_digit (digits_of 16 (n / 16)) (n % 16)

-- digits that are written from the last on, in front of others
onto : (k n : ℕ) (acc : List ℕ) → 0 < n → n < 16 ^ k → digits_onto k 16 false n acc ≡ hex_text n ++ acc
onto zero n acc some small = absurd (omega arith)
onto (suc k) n acc some small =
    by_front (eqb (n / 16) 0) refl
    (λ more. onto k (n / 16) (hex_digit (n % 16) ∷ acc) more (omega (arith, pow-suc 16 k)))
  where
    pushed : hex_text n ++ acc ≡ hex_text (n / 16) ++ (hex_digit (n % 16) ∷ acc)
    pushed = ap (λ (t : List ℕ). t ++ acc) (hex_push n some) ∙ append_assoc (hex_text (n / 16)) (hex_digit (n % 16) ∷ []) acc

    by_front : (b : Bool) → eqb (n / 16) 0 ≡ b
        → (0 < n / 16 → digits_onto k 16 false (n / 16) (hex_digit (n % 16) ∷ acc) ≡ hex_text (n / 16) ++ (hex_digit (n % 16) ∷ acc))
        → cond b (hex_digit (n % 16) ∷ acc) (digits_onto k 16 false (n / 16) (hex_digit (n % 16) ∷ acc)) ≡ hex_text n ++ acc
    by_front true e later = sym (pushed ∙ ap (λ m. hex_text m ++ (hex_digit (n % 16) ∷ acc)) (eqb-true (n / 16) 0 e))
    by_front false e later = later (omega (arith, eqb-false (n / 16) 0 e)) ∙ sym pushed

-- what a size is written as in a format string
pub hex_is_digits : (n : ℕ) → 0 < n → n < 2 ^ 64 → digits 16 false n ≡ hex_text n
unfolding digits
hex_is_digits n some small = onto 64 n [] some (omega arith) ∙ append-nil (hex_text n)

-- ---- what a size reads as

hex_value : (n : ℕ) → 0 < n → n < 2 ^ 64 → digits_value 16 (hex_text n) ≡ n
hex_value n some small =
    ap (digits_value 16) (sym (hex_is_digits n some small))
    ∙ (digits_is_IsNumeral 16 false (omega arith) (omega arith) n (omega arith)).1

hex_some : (n : ℕ) → 0 < n → 0 < length (hex_text n)
hex_some n some = omega (arith, ap length (hex_push n some), length-append (hex_text (n / 16)) (hex_digit (n % 16) ∷ []))

hex_length : (n : ℕ) → n < 2 ^ 64 → length (hex_text n) ≤ 16
hex_length n small = omega (arith, length-map (digits_of 16 n) hex_digit, length-digits_of-le 16 16 n (omega arith) (omega arith))

-- each digit is one, and none ends a line
digit_passes : (d : ℕ) → d < 16 → (is_ascii_hexdigit (hex_digit d) ≡ true) × (is_before_end (hex_digit d) ≡ true)
digit_passes d small = by_ten (ltb d 10) refl
  where
    by_ten : (b : Bool) → ltb d 10 ≡ b
        → (is_ascii_hexdigit (cond b (48 + d) (87 + d)) ≡ true) × (is_before_end (cond b (48 + d) (87 + d)) ≡ true)
    by_ten true e = let l = ltb-true d 10 e in (grind (arith, nat_tests), grind (arith, nat_tests))
    by_ten false e = let l = ltb-false d 10 e in (grind (arith, nat_tests), grind (arith, nat_tests))

digits_pass : (p : ℕ → Bool) → ((d : ℕ) → d < 16 → p (hex_digit d) ≡ true) → (ds : List ℕ) → AllBelowBase 16 ds
    → list_all p (map hex_digit ds) ≡ true
digits_pass p each [] all = refl
digits_pass p each (d ∷ ds) all = and_from _ _ (each d all.0) (digits_pass p each ds all.1)

hex_passes : (p : ℕ → Bool) → ((d : ℕ) → d < 16 → p (hex_digit d) ≡ true) → (n : ℕ) → list_all p (hex_text n) ≡ true
hex_passes p each n = digits_pass p each (digits_of 16 n) (all_below_base_digits_of 16 n (omega arith))

-- ---- the size line that is written is read

passes_whole : (p : ℕ → Bool) (xs ys : List ℕ) → list_all p xs ≡ true → prefix_len p (xs ++ ys) ≡ length xs + prefix_len p ys
passes_whole p [] ys all = sym (zero-add (prefix_len p ys))
passes_whole p (x ∷ xs) ys all =
    let both = and_parts (p x) (list_all p xs) all in
    cond-true (p x) (1 + prefix_len p (xs ++ ys)) 0 both.0 ∙ ap (λ k. 1 + k) (passes_whole p xs ys both.1) ∙ omega arith

-- the line of a size, its CR LF with it
abbrev pub size_text : ℕ → List ℕ
size_text n = hex_text n ++ 13 ∷ 10 ∷ []

size_is_told : (n : ℕ) → 0 < n → n ≤ length_limit → size_told (hex_text n) ≡ Some n
size_is_told n some small =
    let hex = hex_text n in
    let all = hex_passes is_ascii_hexdigit (λ d below. (digit_passes d below).0) n in
    let len : prefix_len is_ascii_hexdigit hex ≡ length hex =
    ap (prefix_len is_ascii_hexdigit) (sym (append-nil hex)) ∙ passes_whole is_ascii_hexdigit hex [] all ∙ omega arith in
    let digits_are : take_while is_ascii_hexdigit hex ≡ hex = ap (λ k. take k hex) len ∙ take_all (length hex) hex (omega arith) in
    let value = hex_value n some (omega arith) in
    let read : number_of_digits hex ≡ Some n =
    cond-true _ _ _ (and_from _ _ (and_from _ _ (lt-ltb 0 (length hex) (hex_some n some)) (le-leb (length hex) 16 (hex_length n (omega arith))))
    (le-leb (digits_value 16 hex) length_limit (omega (arith, value)))) ∙ ap Some value in
    ap (λ (ds : List ℕ). cond (are_extensions (skip_ows (drop (length ds) hex))) (number_of_digits ds) None) digits_are
    ∙ ap (λ (t : List ℕ). cond (are_extensions (skip_ows t)) (number_of_digits hex) None) (drop_all (length hex) hex (omega arith))
    ∙ read

pub size_read : (n : ℕ) (rest : List ℕ) → 0 < n → n ≤ length_limit
    → size_step (size_text n ++ rest) ≡ sized n (length (size_text n))
size_read n rest some small =
    let hex = hex_text n in
    let text = hex ++ 13 ∷ 10 ∷ rest in
    let same : size_text n ++ rest ≡ text = append_assoc hex (13 ∷ 10 ∷ []) rest in
    let len : prefix_len is_before_end text ≡ length hex =
    passes_whole is_before_end hex (13 ∷ 10 ∷ rest) (hex_passes is_before_end (λ d below. (digit_passes d below).1) n) ∙ omega arith in
    let front : front_of text ≡ hex =
    ap (λ k. take k text) len ∙ take-append_seam hex (13 ∷ 10 ∷ rest) in
    let behind : drop (length hex) text ≡ 13 ∷ 10 ∷ rest = drop-append_seam hex (13 ∷ 10 ∷ rest) in
    let there : eqb (length text) 0 ≡ false = ne_eqb _ _ (λ e. omega (arith, hex_some n some, length-append hex (13 ∷ 10 ∷ rest))) in
    let fits : nat_lt 4096 (length hex + 2) ≡ false = le-ltb 4096 (length hex + 2) (omega (arith, hex_length n (omega arith))) in
    ap size_step same
    ∙ cond-false _ _ _ there
    ∙ ap (λ (f : List ℕ). front_step f (drop (length f) text)) front
    ∙ ap (front_step hex) behind
    ∙ cond-false _ _ _ fits
    ∙ ap (λ o. told_step o (length hex) (13 ∷ 10 ∷ rest)) (size_is_told n some small)
    ∙ ap (sized n) (sym (length-append hex (13 ∷ 10 ∷ [])))
