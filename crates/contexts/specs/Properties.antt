-- What a context has set under paths, and the limits of it.
use Rattle.std.specs.Prelude.{◌<◌, ◌≤◌, ◌⊎◌, ℕ, Bool, List, [], ◌∷◌, ◌++◌, length, bytes_eq, Option, None, Some, slice_set}
use Rattle.std.specs.List.{find, position}
use Rattle.std.specs.Option.{option_map}

abbrev pub property_limit : ℕ
property_limit = 64

abbrev pub property_bytes : ℕ
property_bytes = 4096

abbrev pub Property : Type 0
Property = List ℕ × List ℕ

-- each path and each value is short enough
abbrev pub AreShort : List Property → Type 0
AreShort [] = Unit {0}
AreShort (p ∷ ps) = (length p.0 ≤ property_bytes) × (length p.1 ≤ property_bytes) × AreShort ps

pub record AreProperties (ps : List Property) : Type 0 where
  pub few : length ps ≤ property_limit
  pub short : AreShort ps

abbrev pub is_at : List ℕ → Property → Bool
is_at path p = bytes_eq p.0 path

-- the value at a path
abbrev pub property_of : List ℕ → List Property → Option (List ℕ)
property_of path ps = option_map (λ (p : Property). p.1) (find (is_at path) ps)

abbrev pub set_at : List ℕ → List ℕ → Option ℕ → List Property → List Property
set_at path value (Some i) ps = slice_set ps i (path, value)
set_at path value None ps = ps ++ (path, value) ∷ []

-- the value put at its path: in place of the one that is there, else after the others
abbrev pub property_set : List ℕ → List ℕ → List Property → List Property
property_set path value ps = set_at path value (position (is_at path) ps) ps

-- past a limit: too long a path or value, or one property too many
abbrev pub IsPastLimit : List ℕ → List ℕ → List Property → Type 0
IsPastLimit path value ps = (property_bytes < length path) ⊎ (property_bytes < length value) ⊎ (property_limit < length (property_set path value ps))
