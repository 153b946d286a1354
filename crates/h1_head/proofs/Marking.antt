-- Fields without a Connection among them.
use Rattle.std.proofs.Common.{◌≡◌, ℕ, Bool, true, false, ◌||◌, List, [], ◌∷◌, refl, ap, ◌∙◌}
use Rattle.std.proofs.lemmas.Bool.{false≢true}
use Rattle.std.specs.List.{list_any}
use Rattle.h1_model.specs.Fields.{Pair, is_named, values_of}
use Rattle.h1_model.proofs.FieldLemmas.{values_of-other}

-- no field has a name where none is found
pub none_named : (name : List ℕ) (fields : List Pair) → false ≡ list_any (is_named name) fields → values_of name fields ≡ []
none_named name [] none = refl
none_named name (f ∷ fields) none = by_test (is_named name f) refl (λ left. none_named name fields left)
  where
    left : (b : Bool) → is_named name f ≡ b → false ≡ (b || list_any (is_named name) fields)
    left b is = none ∙ ap (λ t. t || list_any (is_named name) fields) is

    by_test : (b : Bool) → is_named name f ≡ b → (false ≡ list_any (is_named name) fields → values_of name fields ≡ [])
        → values_of name (f ∷ fields) ≡ []
    by_test true is later = absurd (false≢true (left true is))
    by_test false is later = values_of-other name f fields is ∙ later (left false is)
