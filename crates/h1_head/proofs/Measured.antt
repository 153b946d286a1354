-- Lemmas on the number that Content-Length tells.
use Rattle.std.proofs.Common.{◌≡◌, ℕ, suc, ◌+◌, ◌*◌, ◌<◌, ◌≤◌, Bool, true, false, cond, ◌&&◌, ◌==◌, List, [], ◌∷◌, ◌++◌, length, Option, None, Some, refl, sym, ap, ◌∙◌, arith}
use Rattle.std.proofs.lemmas.Bool.{cond-false, and_right, lt-leb, eqb-true, false≢true}
use Rattle.std.specs.Prelude.{IfNone, IfSome, is_some}
use Rattle.std.specs.Option.{option_and_then}
use Rattle.std.specs.List.{flat_map, list_all}
use Rattle.std.specs.Char.{digit_value}
use Rattle.std.specs.Str.Parse.{digits_value_after, digits_value}
use Rattle.h1_model.specs.Length.{length_limit, number_of, is_number, all_as, one_number, told_measure, request_measure}
use Rattle.h1_model.specs.Fields.{Pair, members, is_named, values_of}
use Rattle.h1_model.proofs.FieldLemmas.{values_of-named}
use Rattle.h1_head.specs.Measures.{fits, agreed_length, AreOne}
use Rattle.h1_text.proofs.Splits.{members_some}

-- more digits write no smaller number
pub digits_value_after-grows : (n : ℕ) (ds : List ℕ) → n ≤ digits_value_after 10 n ds
digits_value_after-grows n [] = omega arith
digits_value_after-grows n (d ∷ ds) = omega (arith, digits_value_after-grows (n * 10 + digit_value d) ds)

pub number_of-large : (member : List ℕ) → length_limit < digits_value 10 member → number_of member ≡ None
number_of-large member large =
    cond-false _ _ _ (and_right _ _ (lt-leb (digits_value 10 member) length_limit large))

-- after a known number all members write it
pub agreed-known : (n : ℕ) (ms : List (List ℕ)) → agreed_length (Some n) ms ≡ all_as ms (Some n)
agreed-known n [] = refl
agreed-known n (m ∷ ms) = by_number (number_of m) (agreed-known n ms)
  where
    by_same : (k : ℕ) (b : Bool) → k == n ≡ b → agreed_length (Some n) ms ≡ all_as ms (Some n)
        → cond b (agreed_length (Some k) ms) None ≡ cond (b && list_all (λ m. is_number (number_of m) n) ms) (Some n) None
    by_same k false other later = refl
    by_same k true same later = ap (λ j. agreed_length (Some j) ms) (eqb-true k n same) ∙ later

    by_number : (o : Option ℕ) → agreed_length (Some n) ms ≡ all_as ms (Some n)
        → option_and_then (λ k. cond (k == n) (agreed_length (Some k) ms) None) o
        ≡ cond (is_number o n && list_all (λ m. is_number (number_of m) n) ms) (Some n) None
    by_number None later = refl
    by_number (Some k) later = by_same k (k == n) refl later

pub agreed-first : (ms : List (List ℕ)) → agreed_length None ms ≡ one_number ms
agreed-first [] = refl
agreed-first (m ∷ ms) = by_number (number_of m)
  where
    by_number : (o : Option ℕ) → option_and_then (λ k. cond true (agreed_length (Some k) ms) None) o ≡ all_as ms o
    by_number None = refl
    by_number (Some k) = agreed-known k ms

-- the members of one value, and then more
pub agreed-append : (known : Option ℕ) (m : List ℕ) (ms more : List (List ℕ))
    → agreed_length known ((m ∷ ms) ++ more) ≡ option_and_then (λ n. agreed_length (Some n) more) (agreed_length known (m ∷ ms))
agreed-append known m [] more = by_number (number_of m)
  where
    by_fit : (b : Bool) (k : ℕ) → cond b (agreed_length (Some k) more) None ≡ option_and_then (λ n. agreed_length (Some n) more) (cond b (Some k) None)
    by_fit true k = refl
    by_fit false k = refl

    by_number : (o : Option ℕ) → option_and_then (λ k. cond (fits known k) (agreed_length (Some k) more) None) o
        ≡ option_and_then (λ n. agreed_length (Some n) more) (option_and_then (λ k. cond (fits known k) (Some k) None) o)
    by_number None = refl
    by_number (Some k) = by_fit (fits known k) k
agreed-append known m (n ∷ ms) more = by_number (number_of m) (λ k. agreed-append (Some k) n ms more)
  where
    by_fit : (b : Bool) (k : ℕ)
        → agreed_length (Some k) ((n ∷ ms) ++ more) ≡ option_and_then (λ n. agreed_length (Some n) more) (agreed_length (Some k) (n ∷ ms))
        → cond b (agreed_length (Some k) ((n ∷ ms) ++ more)) None ≡ option_and_then (λ n. agreed_length (Some n) more) (cond b (agreed_length (Some k) (n ∷ ms)) None)
    by_fit true k later = later
    by_fit false k later = refl

    by_number : (o : Option ℕ)
        → ((k : ℕ) → agreed_length (Some k) ((n ∷ ms) ++ more) ≡ option_and_then (λ n. agreed_length (Some n) more) (agreed_length (Some k) (n ∷ ms)))
        → option_and_then (λ k. cond (fits known k) (agreed_length (Some k) ((n ∷ ms) ++ more)) None) o
        ≡ option_and_then (λ n. agreed_length (Some n) more) (option_and_then (λ k. cond (fits known k) (agreed_length (Some k) (n ∷ ms)) None) o)
    by_number None later = refl
    by_number (Some k) later = by_fit (fits known k) k (later k)

-- a request without a coding has the length that is told
pub request_measure-told : (minor : ℕ) (values : List (List ℕ)) (number : Option ℕ) → AreOne values number
    → request_measure minor [] values ≡ told_measure number
request_measure-told minor [] number one = absurd (omega (arith, one.some))
request_measure-told minor (value ∷ values) number one = ap told_measure one.one

-- ---- one line after another

agreed-members : (known : Option ℕ) (ms more : List (List ℕ)) → 0 < length ms
    → agreed_length known (ms ++ more) ≡ option_and_then (λ n. agreed_length (Some n) more) (agreed_length known ms)
agreed-members known [] more some = absurd (omega arith)
agreed-members known (m ∷ ms) more some = agreed-append known m ms more

-- the number that the lines of a name tell, of which the first is f
pub told-line : (name : List ℕ) (f : Pair) (fs rest : List Pair) (told next : Option ℕ) → rest ≡ f ∷ fs → is_named name f ≡ true
    → next ≡ agreed_length told (members f.1)
    → agreed_length told (flat_map members (values_of name rest))
    ≡ option_and_then (λ n. agreed_length (Some n) (flat_map members (values_of name fs))) next
told-line name f fs rest told next here named is =
    let later = flat_map members (values_of name fs) in
    ap (λ r. agreed_length told (flat_map members (values_of name r))) here
    ∙ ap (λ vs. agreed_length told (flat_map members vs)) (values_of-named name f fs named)
    ∙ agreed-members told (members f.1) later (members_some f.1)
    ∙ ap (option_and_then (λ n. agreed_length (Some n) later)) (sym is)

pub values_of-some : (name : List ℕ) (f : Pair) (fs rest : List Pair) → rest ≡ f ∷ fs → is_named name f ≡ true
    → 0 < length (values_of name rest)
values_of-some name f fs rest here named =
    let e : length (values_of name rest) ≡ suc (length (values_of name fs)) =
    ap (λ r. length (values_of name r)) here ∙ ap length (values_of-named name f fs named) in
    omega arith

-- a line has come, where one is left or a number was told
pub some_line : (told : Option ℕ) (rest all : List (List ℕ)) → IfNone told (rest ≡ all) → IfSome told (λ _. 0 < length all)
    → 0 < length rest → 0 < length all
some_line None rest all same some here = omega (arith, ap length same)
some_line (Some n) rest all same some here = some

-- the state after a line that tells a number
pub told-next : (next : Option ℕ) (later all : List (List ℕ)) (whole : Option ℕ) → is_some next ≡ true
    → option_and_then (λ n. agreed_length (Some n) (flat_map members later)) next ≡ whole → 0 < length all
    → (agreed_length next (flat_map members later) ≡ whole) × IfNone next (later ≡ all) × IfSome next (λ _. 0 < length all)
told-next None later all whole some is here = absurd (false≢true some)
told-next (Some n) later all whole some is here = (is, tt, here)

pub told-none : (next : Option ℕ) (later : List (List ℕ)) (whole : Option ℕ) → is_some next ≡ false
    → option_and_then (λ n. agreed_length (Some n) (flat_map members later)) next ≡ whole → whole ≡ None
told-none None later whole none is = sym is
told-none (Some n) later whole none is = absurd (false≢true (sym none))

pub told-end : (n : ℕ) (rest all : List (List ℕ)) → rest ≡ [] → agreed_length (Some n) (flat_map members rest) ≡ agreed_length None (flat_map members all)
    → 0 < length all → AreOne all (Some n)
told-end n rest all none agrees some = record {
  some = some;
  one = sym (agreed-first (flat_map members all)) ∙ sym agrees ∙ ap (λ (r : List (List ℕ)). agreed_length (Some n) (flat_map members r)) none;
}
