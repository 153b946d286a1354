-- Lemmas on the fields of a message, one field after another.
use Rattle.std.proofs.Common.{◌≡◌, ℕ, Bool, true, false, ◌||◌, List, ◌∷◌, None, Some, refl, ap, ◌∙◌}
use Rattle.std.specs.Prelude.{codes}
use Rattle.std.specs.List.{list_any}
use Rattle.http_header.specs.Token.{lowercase}
use Rattle.h1_model.specs.Fields.{Pair, is_named, values_of, lists, is_listed, is_dropped, lowercase_name, kept_among, passing_among}
use Rattle.header_maps.specs.Faults.{Fault, add_fault}
use Rattle.header_maps.specs.Headers.{Headers}
use Rattle.header_maps.specs.Operations.{added}
use Rattle.h1_model.specs.Listed.{with_fields}
use Rattle.h1_model.specs.Wire.{is_left_out, sent_among}

pub values_of-named : (name : List ℕ) (f : Pair) (fs : List Pair) → is_named name f ≡ true
    → values_of name (f ∷ fs) ≡ f.1 ∷ values_of name fs
values_of-named name f fs named = rw named

pub values_of-other : (name : List ℕ) (f : Pair) (fs : List Pair) → is_named name f ≡ false
    → values_of name (f ∷ fs) ≡ values_of name fs
values_of-other name f fs other = rw other

pub is_listed-other : (name : List ℕ) (f : Pair) (fs : List Pair) → is_named (codes "connection") f ≡ false
    → is_listed name (f ∷ fs) ≡ is_listed name fs
is_listed-other name f fs other = ap (list_any (lists name)) (values_of-other (codes "connection") f fs other)

pub is_listed-yes : (name : List ℕ) (f : Pair) (fs : List Pair) → is_named (codes "connection") f ≡ true → lists name f.1 ≡ true
    → is_listed name (f ∷ fs) ≡ true
is_listed-yes name f fs named found =
    ap (list_any (lists name)) (values_of-named (codes "connection") f fs named)
    ∙ ap (λ b. b || is_listed name fs) found

pub is_listed-no : (name : List ℕ) (f : Pair) (fs : List Pair) → lists name f.1 ≡ false
    → is_listed name (f ∷ fs) ≡ is_listed name fs
is_listed-no name f fs lacks = by_test (is_named (codes "connection") f) refl
  where
    by_test : (b : Bool) → is_named (codes "connection") f ≡ b → is_listed name (f ∷ fs) ≡ is_listed name fs
    by_test true named =
        ap (list_any (lists name)) (values_of-named (codes "connection") f fs named) ∙ ap (λ b. b || is_listed name fs) lacks
    by_test false other = is_listed-other name f fs other

pub kept_among-dropped : (all : List Pair) (f : Pair) (fs : List Pair) → is_dropped all (lowercase f.0) ≡ true
    → kept_among all (f ∷ fs) ≡ kept_among all fs
kept_among-dropped all f fs dropped = rw dropped

pub kept_among-kept : (all : List Pair) (f : Pair) (fs : List Pair) → is_dropped all (lowercase f.0) ≡ false
    → kept_among all (f ∷ fs) ≡ lowercase_name f ∷ kept_among all fs
kept_among-kept all f fs kept = rw kept

pub sent_among-left_out : (all : List Pair) (f : Pair) (fs : List Pair) → is_left_out all (lowercase f.0) ≡ true
    → sent_among all (f ∷ fs) ≡ sent_among all fs
sent_among-left_out all f fs out = rw out

pub sent_among-sent : (all : List Pair) (f : Pair) (fs : List Pair) → is_left_out all (lowercase f.0) ≡ false
    → sent_among all (f ∷ fs) ≡ f ∷ sent_among all fs
sent_among-sent all f fs sent = rw sent

pub passing_among-dropped : (dropped : List ℕ → Bool) (f : Pair) (fs : List Pair) → dropped (lowercase f.0) ≡ true
    → passing_among dropped (f ∷ fs) ≡ passing_among dropped fs
passing_among-dropped dropped f fs is = rw is

pub passing_among-passing : (dropped : List ℕ → Bool) (f : Pair) (fs : List Pair) → dropped (lowercase f.0) ≡ false
    → passing_among dropped (f ∷ fs) ≡ f ∷ passing_among dropped fs
passing_among-passing dropped f fs is = rw is

-- ---- lists

pub with_fields-taken : (headers : Headers) (f : Pair) (fs : List Pair) → add_fault headers f.0 f.1 ≡ None
    → with_fields headers (f ∷ fs) ≡ with_fields (added headers f.0 f.1) fs
with_fields-taken headers f fs none = rw none

pub with_fields-refused : (headers : Headers) (f : Pair) (fs : List Pair) (fault : Fault) → add_fault headers f.0 f.1 ≡ Some fault
    → with_fields headers (f ∷ fs) ≡ None
with_fields-refused headers f fs fault some = rw some
