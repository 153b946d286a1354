-- What the framing field of a response tells a reader.
use Rattle.std.proofs.Common.{◌≡◌, ℕ, ◌+◌, ◌*◌, ◌/◌, ◌%◌, ◌^◌, ◌<◌, ◌≤◌, Bool, true, false, cond, eqb, ◌&&◌, List, [], ◌∷◌, ◌++◌, length, reverse, map, get_or, codes, decimal, None, Some, Ok, refl, ap, ◌∙◌, arith}
use Rattle.std.proofs.lemmas.Bool.{and_from, and_parts, cond-true, cond-false, lt-ltb, le-leb, leb-true, eqb-true, false≢true}
use Rattle.std.proofs.lemmas.Bool.Decides.{nat_tests}
use Rattle.std.proofs.lemmas.Fmt.{decimal_is_IsNumeral}
use Rattle.std.proofs.lemmas.List.Splits.{slice_split_none}
use Rattle.std.proofs.lemmas.List.Sums.{AllPass-from_list_all}
use Rattle.std.proofs.lemmas.List.Elements.{All-head}
use Rattle.std.proofs.lemmas.Str.Parse.{digit_from_value}
use Rattle.std.proofs.lemmas.Str.{digit_value_digit}
use Rattle.std.specs.Char.{is_ascii_digit, digit_value}
use Rattle.std.specs.List.{list_all}
use Rattle.std.specs.Prelude.{nat_le, IsTrue}
use Rattle.std.specs.Str.Parse.{AllDigits, digits_value}
use Rattle.httparse.specs.Grammar.{AllPass, is_ows, skip_ows, trim_ows}
use Rattle.httparse.proofs.OnLiterals.{httparse_on_literals}
use Rattle.httparse.proofs.TrimLemmas.{AllPass-reverse}
use Rattle.std.proofs.lemmas.List.{reverse-reverse}
use Rattle.header_maps.specs.Judged.{is_visible, status_text, is_within, is_status}
use Rattle.h1_model.specs.Fields.{members}
use Rattle.h1_model.specs.Length.{nothing, exactly, chunked, Measure, length_limit, number_of, all_as, one_number, told_measure, or_malformed, request_measure, response_measure}

-- ---- digits

digit_is : (b : ℕ) → digit_value b < 10 → is_ascii_digit b ≡ true
digit_is b low = let r = digit_from_value b low in grind (arith, nat_tests)

digits_are : (ds : List ℕ) → AllDigits 10 ds → list_all is_ascii_digit ds ≡ true
digits_are [] all = refl
digits_are (d ∷ ds) all = and_from _ _ (digit_is d all.0) (digits_are ds all.1)

pub decimal_digits : (n : ℕ) → n < 2 ^ 64 → list_all is_ascii_digit (decimal n) ≡ true
decimal_digits n small = digits_are (decimal n) (decimal_is_IsNumeral n small).0.1

no_blank : (b : ℕ) → is_ascii_digit b ≡ true → is_ows b ≡ false
no_blank b is = grind (arith, nat_tests)

no_comma : (b : ℕ) → is_ascii_digit b ≡ true → eqb b 44 ≡ false
no_comma b is = grind (arith, nat_tests)

-- bytes that are no blanks
abbrev NoBlanks : (ℕ → Bool) → Type 0
NoBlanks test = (b : ℕ) → test b ≡ true → is_ows b ≡ false

skip_none : (test : ℕ → Bool) → NoBlanks test → (bs : List ℕ) → AllPass test bs → skip_ows bs ≡ bs
skip_none test apart [] all = refl
skip_none test apart (b ∷ bs) all = cond-false _ _ _ (apart b (All-head (λ x. IsTrue (test x)) b bs all))

-- have no blanks around them
trim_none : (test : ℕ → Bool) → NoBlanks test → (bs : List ℕ) → list_all test bs ≡ true → trim_ows bs ≡ bs
unfolding trim_ows
trim_none test apart bs are =
    let all = AllPass-from_list_all test bs are in
    ap (λ (t : List ℕ). reverse (skip_ows (reverse t))) (skip_none test apart bs all)
    ∙ ap reverse (skip_none test apart (reverse bs) (AllPass-reverse test bs all))
    ∙ reverse-reverse bs

trim_digits : (ds : List ℕ) → list_all is_ascii_digit ds ≡ true → trim_ows ds ≡ ds
trim_digits ds are = trim_none is_ascii_digit no_blank ds are

visible_no_blank : (b : ℕ) → is_visible b ≡ true → is_ows b ≡ false
visible_no_blank b is = grind (arith, nat_tests)

pub trim_visible : (bs : List ℕ) → list_all is_visible bs ≡ true → trim_ows bs ≡ bs
trim_visible bs are = trim_none is_visible visible_no_blank bs are

-- ---- the number that is told

-- digits are one member of a list
members_of_digits : (ds : List ℕ) → list_all is_ascii_digit ds ≡ true → members ds ≡ ds ∷ []
members_of_digits ds are =
    let all = AllPass-from_list_all is_ascii_digit ds are in
    ap (map trim_ows) (slice_split_none (λ b. eqb b 44) ds (λ k d lt. no_comma (get_or ds k d) (all k d lt)))
    ∙ ap (λ (t : List ℕ). t ∷ []) (trim_digits ds are)

number_told : (n : ℕ) → n ≤ length_limit → number_of (decimal n) ≡ Some n
number_told n small =
    let numeral = decimal_is_IsNumeral n (omega (arith, small)) in
    let value = numeral.1 in
    cond-true _ _ _ (and_from _ _ (and_from _ _ (lt-ltb 0 (length (decimal n)) numeral.0.0) (digits_are (decimal n) numeral.0.1))
    (le-leb (digits_value 10 (decimal n)) length_limit (omega (arith, value, small)))) ∙ ap Some value

-- the measure that one line of Content-Length gives
abbrev pub told_as : ℕ → Measure
told_as n = record { length = cond (eqb n 0) nothing (exactly n); told = Some n }

one_told : (n : ℕ) → n ≤ length_limit → one_number (members (trim_ows (decimal n)) ++ []) ≡ Some n
one_told n small =
    let are = decimal_digits n (omega (arith, small)) in
    ap (λ (t : List ℕ). one_number (members t ++ [])) (trim_digits (decimal n) are)
    ∙ ap (λ (ms : List (List ℕ)). one_number (ms ++ [])) (members_of_digits (decimal n) are)
    ∙ ap (all_as []) (number_told n small)

pub request_length_told : (n : ℕ) → n ≤ length_limit → request_measure 1 [] (trim_ows (decimal n) ∷ []) ≡ Ok (told_as n)
request_length_told n small = ap told_measure (one_told n small)

pub length_told : (n : ℕ) → n ≤ length_limit → response_measure 1 [] (trim_ows (decimal n) ∷ []) ≡ Ok (told_as n)
length_told n small = ap (λ o. or_malformed (told_measure o)) (one_told n small)

abbrev pub told_in_chunks : Measure
told_in_chunks = record { length = chunked; told = None }

pub request_chunks_told : request_measure 1 (trim_ows (codes "chunked") ∷ []) [] ≡ Ok told_in_chunks
unfolding httparse_on_literals
request_chunks_told = refl

pub chunks_told : response_measure 1 (trim_ows (codes "chunked") ∷ []) [] ≡ Ok told_in_chunks
unfolding httparse_on_literals
chunks_told = refl

-- ---- statuses

-- three digits, of a number in a range
pub record IsCode (low high : ℕ) (v : List ℕ) : Type 0 where
  pub three : length v ≡ 3
  pub digits : list_all is_ascii_digit v ≡ true
  pub above : low ≤ digits_value 10 v
  pub below : digits_value 10 v ≤ high

pub code_of : (low high : ℕ) (v : List ℕ) → is_status low high v ≡ true → IsCode low high v
code_of low high v is = by_test (eqb (length v) 3 && list_all is_ascii_digit v) refl is
  where
    by_test : (b : Bool) → (eqb (length v) 3 && list_all is_ascii_digit v) ≡ b → is_within low high (cond b (Some (digits_value 10 v)) None) ≡ true
        → IsCode low high v
    by_test true e is =
        let both = and_parts (eqb (length v) 3) (list_all is_ascii_digit v) e in
        let range = and_parts (nat_le low (digits_value 10 v)) (nat_le (digits_value 10 v) high) is in
        record {
          three = eqb-true (length v) 3 both.0;
          digits = both.1;
          above = leb-true low (digits_value 10 v) range.0;
          below = leb-true (digits_value 10 v) high range.1;
        }
    by_test false e is = absurd (false≢true is)

digit_plus : (b : ℕ) → is_ascii_digit b ≡ true → (digit_value b + 48 ≡ b) × (digit_value b < 10)
digit_plus b is =
    let both = and_parts (nat_le 48 b) (nat_le b 57) is in
    let low = leb-true 48 b both.0 in
    let high = leb-true b 57 both.1 in
    let plus = digit_value_digit b (low, high) in
    (plus, omega (arith, plus, high))

-- the digits of a code are those of its number
pub code_text : (v : List ℕ) → length v ≡ 3 → list_all is_ascii_digit v ≡ true → status_text (digits_value 10 v) ≡ v
code_text [] three are = absurd (omega arith)
code_text (a ∷ []) three are = absurd (omega arith)
code_text (a ∷ b ∷ []) three are = absurd (omega arith)
code_text (a ∷ b ∷ c ∷ d ∷ v) three are = absurd (omega arith)
code_text (a ∷ b ∷ c ∷ []) three are =
    let x = and_parts (is_ascii_digit a) (list_all is_ascii_digit (b ∷ c ∷ [])) are in
    let y = and_parts (is_ascii_digit b) (list_all is_ascii_digit (c ∷ [])) x.1 in
    let z = and_parts (is_ascii_digit c) true y.1 in
    let da = digit_plus a x.0 in
    let db = digit_plus b y.0 in
    let dc = digit_plus c z.0 in
    let n = digits_value 10 (a ∷ b ∷ c ∷ []) in
    let value : n ≡ digit_value a * 100 + digit_value b * 10 + digit_value c = omega arith in
    let first : 48 + n / 100 ≡ a = omega (arith, value, da, db, dc) in
    let second : 48 + n / 10 % 10 ≡ b = omega (arith, value, da, db, dc) in
    let third : 48 + n % 10 ≡ c = omega (arith, value, da, db, dc) in
    λ t. first t ∷ second t ∷ third t ∷ []
