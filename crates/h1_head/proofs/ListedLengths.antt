-- Lengths of the names that a head's Connection lists.
use Rattle.std.proofs.Common.{◌≡◌, ◌⊎◌, ℕ, Bool, true, false, ◌||◌, List, [], ◌∷◌, length, codes, bytes_eq, refl, sym, ap, ◌∙◌, subst, inl, inr}
use Rattle.std.proofs.lemmas.Bool.{false≢true}
use Rattle.std.proofs.lemmas.List.{length-map}
use Rattle.std.specs.Char.{to_ascii_lowercase}
use Rattle.std.specs.List.{list_any}
use Rattle.http_header.specs.Token.{lowercase}
use Rattle.http_uri.proofs.SchemeLemmas.{length_of_folded}
use Rattle.h1_model.specs.Fields.{Pair, lists, is_named, is_listed}
use Rattle.h1_model.proofs.FieldLemmas.{values_of-named, is_listed-other}
use Rattle.h1_head.specs.declared.lengths.Lengths.{Lengths}
use Rattle.h1_head.specs.Lengths.{IsBetween}

either : (a b : Bool) → (a || b) ≡ true → (a ≡ true) ⊎ (b ≡ true)
either true b h = inl refl
either false b h = inr h

-- one of the members is this name
abbrev pub names : List ℕ → List (List ℕ) → Bool
names name members = list_any (λ m. bytes_eq (lowercase m) name) members

-- the name has one of these lengths, or is one of the members that are left
abbrev pub IsSeen : Lengths → List ℕ → List (List ℕ) → Type 0
IsSeen lengths name left = IsBetween lengths (length name) ⊎ (names name left ≡ true)

pub member_noted : (old new : Lengths) (name m : List ℕ) (left all : List (List ℕ)) → all ≡ m ∷ left
    → ((n : ℕ) → IsBetween old n → IsBetween new n) → IsBetween new (length m) → IsSeen old name all → IsSeen new name left
member_noted old new name m left all is wider has (inl between) = inl (wider (length name) between)
member_noted old new name m left all is wider has (inr some) =
    by_first (either (bytes_eq (lowercase m) name) (names name left) (sym (ap (names name) is) ∙ some))
  where
    by_first : (bytes_eq (lowercase m) name ≡ true) ⊎ (names name left ≡ true) → IsSeen new name left
    by_first (inl here) = inl (subst (IsBetween new) (length_of_folded m name here) has)
    by_first (inr later) = inr later

-- the name has one of these lengths, or one of the fields that are left lists it
abbrev pub IsFound : Lengths → List ℕ → List Pair → Type 0
IsFound lengths name left = IsBetween lengths (length name) ⊎ (is_listed name left ≡ true)

pub line_noted : (old new : Lengths) (name : List ℕ) (f : Pair) (left all : List Pair) → all ≡ f ∷ left → is_named (codes "connection") f ≡ true
    → ((n : ℕ) → IsBetween old n → IsBetween new n) → (lists name f.1 ≡ true → IsBetween new (length name)) → IsFound old name all
    → IsFound new name left
line_noted old new name f left all is named wider has (inl between) = inl (wider (length name) between)
line_noted old new name f left all is named wider has (inr some) =
    by_first (either (lists name f.1) (is_listed name left)
    (sym (ap (is_listed name) is ∙ ap (list_any (lists name)) (values_of-named (codes "connection") f left named)) ∙ some))
  where
    by_first : (lists name f.1 ≡ true) ⊎ (is_listed name left ≡ true) → IsFound new name left
    by_first (inl here) = inl (has here)
    by_first (inr later) = inr later

pub line_passed : (lengths : Lengths) (name : List ℕ) (f : Pair) (left all : List Pair) → all ≡ f ∷ left → is_named (codes "connection") f ≡ false
    → IsFound lengths name all → IsFound lengths name left
line_passed lengths name f left all is other (inl between) = inl between
line_passed lengths name f left all is other (inr some) = inr (sym (ap (is_listed name) is ∙ is_listed-other name f left other) ∙ some)

-- where nothing is left, the lengths decide
pub none_left : (lengths : Lengths) (name : List ℕ) (left : List (List ℕ)) → left ≡ [] → IsSeen lengths name left → IsBetween lengths (length name)
none_left lengths name left is (inl between) = between
none_left lengths name left is (inr some) = absurd (false≢true (sym (ap (names name) is) ∙ some))

pub no_line_left : (lengths : Lengths) (name : List ℕ) (left : List Pair) → left ≡ [] → IsFound lengths name left → IsBetween lengths (length name)
no_line_left lengths name left is (inl between) = between
no_line_left lengths name left is (inr some) = absurd (false≢true (sym (ap (is_listed name) is) ∙ some))

-- a name of another length is listed by none
pub unlisted_by_length : (lengths : Lengths) (has : Bool) (name : List ℕ) (fields : List Pair)
    → ((n : List ℕ) → is_listed n fields ≡ true → IsBetween lengths (length n)) → (IsBetween lengths (length name) → has ≡ true) → has ≡ false
    → false ≡ is_listed (lowercase name) fields
unlisted_by_length lengths has name fields listed held is = by_test (is_listed (lowercase name) fields) refl
  where
    by_test : (b : Bool) → is_listed (lowercase name) fields ≡ b → false ≡ b
    by_test false e = refl
    by_test true e =
        absurd (false≢true (sym is ∙ held (subst (IsBetween lengths) (length-map name to_ascii_lowercase) (listed (lowercase name) e))))
