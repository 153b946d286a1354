-- Fields that are taken out of a list, one name after another.
use Rattle.std.proofs.Common.{◌≡◌, ℕ, zero, suc, ◌+◌, ◌<◌, Bool, true, false, cond, not, ◌&&◌, ◌||◌, List, [], ◌∷◌, ◌++◌, filter, length, drop, get_or, nat_le, nat_lt, bytes_eq, Option, None, Some, Result, Ok, Err, OnOk, OnErr, IsOk, refl, sym, ap, ◌∙◌, subst, arith}
use Rattle.std.proofs.lemmas.Bool.{and_parts, and_from, false≢true}
use Rattle.std.proofs.lemmas.Bool.Decides.{nat_tests}
use Rattle.std.proofs.lemmas.List.{length-map, drop_more, append_assoc}
use Rattle.std.proofs.lemmas.Slice.Eq.{bytes_eq-Decides}
use Rattle.std.specs.Char.{to_ascii_lowercase}
use Rattle.std.specs.List.{list_all, list_any}
use Rattle.http_header.specs.Token.{lowercase, is_token_byte}
use Rattle.header_maps.specs.declared.end.HeaderEnd.{HeaderEnd}
use Rattle.header_maps.specs.Faults.{Fault, bad_name, fault_of, first_fault, remove_fault}
use Rattle.header_maps.specs.Headers.{Headers}
use Rattle.header_maps.specs.Judged.{is_field_name, is_field_value, is_token_text}
use Rattle.header_maps.specs.Kept.{is_kept_field}
use Rattle.header_maps.specs.Operations.{removed, without}
use Rattle.header_maps.specs.Pairs.{is_not_named}
use Rattle.header_maps.proofs.Shapes.{bytes_are, filter_all}
use Rattle.h1_model.specs.Fields.{Pair, lists, members, fields_not_listed}
use Rattle.h1_head.specs.Unnamed.{unnamed}

-- ---- two tests

-- what neither test takes out
filter_twice : (p q : Pair → Bool) (fields : List Pair)
    → filter (λ f. not (q f)) (filter (λ f. not (p f)) fields) ≡ filter (λ f. not (p f || q f)) fields
filter_twice p q [] = refl
filter_twice p q (f ∷ fields) = by_test (p f) (filter_twice p q fields)
  where
    by_test : (b : Bool) → filter (λ g. not (q g)) (filter (λ g. not (p g)) fields) ≡ filter (λ g. not (p g || q g)) fields
        → filter (λ g. not (q g)) (cond (not b) (f ∷ filter (λ g. not (p g)) fields) (filter (λ g. not (p g)) fields))
        ≡ cond (not (b || q f)) (f ∷ filter (λ g. not (p g || q g)) fields) (filter (λ g. not (p g || q g)) fields)
    by_test true later = later
    by_test false later = ap (λ (fs : List Pair). cond (not (q f)) (f ∷ fs) fs) later

-- the fields that one member does not name
abbrev pub unnamed_by : List ℕ → List Pair → List Pair
unnamed_by member fields = filter (λ (f : Pair). not (bytes_eq (lowercase member) f.0)) fields

pub unnamed-cons : (m : List ℕ) (ms : List (List ℕ)) (fields : List Pair) → unnamed ms (unnamed_by m fields) ≡ unnamed (m ∷ ms) fields
unnamed-cons m ms fields =
    filter_twice (λ (f : Pair). bytes_eq (lowercase m) f.0) (λ (f : Pair). list_any (λ n. bytes_eq (lowercase n) f.0) ms) fields

filter_none : (fields : List Pair) → filter (λ (f : Pair). true) fields ≡ fields
filter_none [] = refl
filter_none (f ∷ fields) = ap (λ (fs : List Pair). f ∷ fs) (filter_none fields)

pub unnamed-nil : (fields : List Pair) → unnamed [] fields ≡ fields
unnamed-nil fields = filter_none fields

pub unlisted-cons : (value : List ℕ) (values : List (List ℕ)) (fields : List Pair)
    → fields_not_listed values (unnamed (members value) fields) ≡ fields_not_listed (value ∷ values) fields
unlisted-cons value values fields =
    filter_twice (λ (f : Pair). lists f.0 value) (λ (f : Pair). list_any (lists f.0) values) fields

pub unlisted-nil : (fields : List Pair) → fields_not_listed [] fields ≡ fields
unlisted-nil fields = filter_none fields

-- ---- one name

-- a name in lower case is a name only if it is one
token_back : (b : ℕ) → is_token_byte (to_ascii_lowercase b) ≡ true → is_token_byte b ≡ true
unfolding is_token_byte
token_back b h = grind (arith, nat_tests)

tokens_back : (bytes : List ℕ) → list_all is_token_byte (lowercase bytes) ≡ true → list_all is_token_byte bytes ≡ true
tokens_back [] h = refl
tokens_back (b ∷ bytes) h =
    let parts = and_parts _ _ h in
    and_from _ _ (token_back b parts.0) (tokens_back bytes parts.1)

name_back : (name : List ℕ) → is_field_name (lowercase name) ≡ true → is_field_name name ≡ true
name_back name h =
    let parts = and_parts (is_token_text (lowercase name)) (nat_le (length (lowercase name)) 65535) h in
    let token = and_parts (nat_lt 0 (length (lowercase name))) (list_all is_token_byte (lowercase name)) parts.0 in
    let same : length (lowercase name) ≡ length name = length-map name to_ascii_lowercase in
    let some : nat_lt 0 (length name) ≡ true = ap (λ n. nat_lt 0 n) (sym same) ∙ token.0 in
    let short : nat_le (length name) 65535 ≡ true = ap (λ n. nat_le n 65535) (sym same) ∙ parts.1 in
    and_from _ _ (and_from _ _ some (tokens_back name token.1)) short

-- a field that is kept has a name, in lower case
record IsNamed (f : Pair) : Type 0 where
  name : is_field_name f.0 ≡ true
  lower : lowercase f.0 ≡ f.0

kept_named : (f : Pair) → is_kept_field f ≡ true → IsNamed f
kept_named f h =
    let parts = and_parts (is_field_name f.0 && bytes_eq (lowercase f.0) f.0) (is_field_value f.1) h in
    let names = and_parts (is_field_name f.0) (bytes_eq (lowercase f.0) f.0) parts.0 in
    record { name = names.0; lower = bytes_are (lowercase f.0) f.0 names.1 }

eq_turned : (a b : List ℕ) → bytes_eq a b ≡ bytes_eq b a
eq_turned a b = by_tests (bytes_eq a b) (bytes_eq b a) refl refl
  where
    by_tests : (x y : Bool) → bytes_eq a b ≡ x → bytes_eq b a ≡ y → x ≡ y
    by_tests true true p q = refl
    by_tests false false p q = refl
    by_tests true false p q = sym (sym q ∙ (bytes_eq-Decides b a).1 (sym (bytes_are a b p)))
    by_tests false true p q = sym p ∙ (bytes_eq-Decides a b).1 (sym (bytes_are b a q))

-- what is taken out under a name is what the member names
without_named : (m : List ℕ) (fields : List Pair) → list_all is_kept_field fields ≡ true → without (lowercase m) fields ≡ unnamed_by m fields
without_named m [] h = refl
without_named m (f ∷ fields) h =
    let parts = and_parts (is_kept_field f) (list_all is_kept_field fields) h in
    let lower = (kept_named f parts.0).lower in
    let test : is_not_named (lowercase m) f ≡ not (bytes_eq (lowercase m) f.0) =
    ap (λ (n : List ℕ). not (bytes_eq n (lowercase m))) lower ∙ ap not (eq_turned f.0 (lowercase m)) in
    ap (λ b. cond b (f ∷ without (lowercase m) fields) (without (lowercase m) fields)) test
    ∙ ap (λ (fs : List Pair). cond (not (bytes_eq (lowercase m) f.0)) (f ∷ fs) fs) (without_named m fields parts.1)

-- what can be no field's name names none
no_name : (m : List ℕ) (fields : List Pair) → list_all is_kept_field fields ≡ true → is_field_name m ≡ false → fields ≡ unnamed_by m fields
no_name m [] h is_none = refl
no_name m (f ∷ fields) h is_none =
    by_test (bytes_eq (lowercase m) f.0) refl
    (no_name m fields (and_parts (is_kept_field f) (list_all is_kept_field fields) h).1 is_none)
  where
    named : IsNamed f
    named = kept_named f (and_parts (is_kept_field f) (list_all is_kept_field fields) h).0

    by_test : (b : Bool) → bytes_eq (lowercase m) f.0 ≡ b → fields ≡ unnamed_by m fields
        → f ∷ fields ≡ cond (not b) (f ∷ unnamed_by m fields) (unnamed_by m fields)
    by_test true is later =
        absurd (false≢true (sym is_none ∙ name_back m (ap is_field_name (bytes_are (lowercase m) f.0 is) ∙ named.name)))
    by_test false is later = ap (λ (fs : List Pair). f ∷ fs) later

-- what a list leaves under a member
pub record Leaves (m : List ℕ) (old new : List Pair) : Type 0 where
  pub left : new ≡ unnamed_by m old
  pub kept : list_all is_kept_field new ≡ true

leaves : (m : List ℕ) (old new : List Pair) → list_all is_kept_field old ≡ true → new ≡ unnamed_by m old → Leaves m old new
leaves m old new h is = record {
  left = is;
  kept = subst (λ (fs : List Pair). list_all is_kept_field fs ≡ true) (sym is)
      (filter_all is_kept_field (λ (f : Pair). not (bytes_eq (lowercase m) f.0)) old h);
}

-- a list from which a name was removed, whether or not it is a field's name
pub removed_leaves : {A : Type 0} (r : Result A HeaderEnd) (m : List ℕ) (old new : Headers) → fault_of r ≡ remove_fault m
    → OnOk r (new ≡ removed old m) → OnErr r (new ≡ old) → (is_field_name m ≡ true → IsOk r)
    → list_all is_kept_field old.pairs ≡ true → Leaves m old.pairs new.pairs
removed_leaves r m old new cause ok err sure h = by_name (is_field_name m) refl
  where
    taken : {A : Type 0} (s : Result A HeaderEnd) → OnOk s (new ≡ removed old m) → IsOk s → new ≡ removed old m
    taken (Ok a) x is = x
    taken (Err e) x is = absurd (cc)

    no_fault : ◌≡◌ {A = Option Fault} None (Some bad_name) → ⊥
    no_fault e = cc

    stays : {A : Type 0} (s : Result A HeaderEnd) → OnErr s (new ≡ old) → fault_of s ≡ Some bad_name → new ≡ old
    stays (Ok a) x e = absurd (no_fault e)
    stays (Err e) x f = x

    by_name : (b : Bool) → is_field_name m ≡ b → Leaves m old.pairs new.pairs
    by_name true is =
        leaves m old.pairs new.pairs h (ap (λ (l : Headers). l.pairs) (taken r ok (sure is)) ∙ without_named m old.pairs h)
    by_name false is_none =
        leaves m old.pairs new.pairs h
        (ap (λ (l : Headers). l.pairs) (stays r err (cause ∙ ap (λ b. first_fault b true true) is_none)) ∙ no_name m old.pairs h is_none)

-- ---- one field after another

all_at : (fields : List Pair) (i : ℕ) (d : Pair) → i < length fields → list_all is_kept_field fields ≡ true → is_kept_field (get_or fields i d) ≡ true
all_at [] i d lt h = absurd (omega arith)
all_at (f ∷ fields) zero d lt h = (and_parts (is_kept_field f) (list_all is_kept_field fields) h).0
all_at (f ∷ fields) (suc i) d lt h = all_at fields i d (omega arith) (and_parts (is_kept_field f) (list_all is_kept_field fields) h).1

-- what is unlisted from a place on, by the field that stands there
unlisted_from : (values : List (List ℕ)) (fields : List Pair) (i : ℕ) (d f : Pair) → i < length fields → f ≡ get_or fields i d
    → list_all is_kept_field fields ≡ true
    → fields_not_listed values (drop i fields)
    ≡ cond (list_any (lists (lowercase f.0)) values) (fields_not_listed values (drop (i + 1) fields)) ((lowercase f.0, f.1) ∷ fields_not_listed values (drop (i + 1) fields))
unlisted_from values fields i d f lt is kept =
    ap (fields_not_listed values) (drop_more fields i d lt)
    ∙ ap (λ (g : Pair). fields_not_listed values (g ∷ drop (i + 1) fields)) (sym is)
    ∙ by_test (list_any (lists f.0) values)
    ∙ ap (λ (n : List ℕ). cond (list_any (lists n) values) behind ((n, f.1) ∷ behind)) (sym named.lower)
  where
    behind : List Pair
    behind = fields_not_listed values (drop (i + 1) fields)

    named : IsNamed f
    named = kept_named f (subst (λ (g : Pair). is_kept_field g ≡ true) (sym is) (all_at fields i d lt kept))

    by_test : (b : Bool) → cond (not b) (f ∷ behind) behind ≡ cond b behind ((f.0, f.1) ∷ behind)
    by_test true = refl
    by_test false = refl

-- one field more is left, or is not
pub left_step : (values : List (List ℕ)) (fields : List Pair) (i : ℕ) (d f : Pair) (left new all : List Pair) (b : Bool) → i < length fields
    → f ≡ get_or fields i d → list_all is_kept_field fields ≡ true → b ≡ list_any (lists (lowercase f.0)) values
    → new ≡ cond b left (left ++ (lowercase f.0, f.1) ∷ []) → left ++ fields_not_listed values (drop i fields) ≡ all
    → new ++ fields_not_listed values (drop (i + 1) fields) ≡ all
left_step values fields i d f left new all b lt is kept listed put so_far =
    ap (λ (ps : List Pair). ps ++ behind) put ∙ by_test b
    ∙ ap (λ t. left ++ cond t behind ((lowercase f.0, f.1) ∷ behind)) listed
    ∙ ap (λ (ps : List Pair). left ++ ps) (sym (unlisted_from values fields i d f lt is kept)) ∙ so_far
  where
    behind : List Pair
    behind = fields_not_listed values (drop (i + 1) fields)

    by_test : (t : Bool) → cond t left (left ++ (lowercase f.0, f.1) ∷ []) ++ behind ≡ left ++ cond t behind ((lowercase f.0, f.1) ∷ behind)
    by_test true = refl
    by_test false = append_assoc left ((lowercase f.0, f.1) ∷ []) behind
