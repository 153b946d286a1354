-- What holds of the field operations.
use Rattle.std.specs.Prelude.{◌≡◌, ◌↔◌, ◌<◌, ℕ, true, List, map, None, Some}
use Rattle.std.specs.List.{position, position_or_len}
use Rattle.http_header.specs.FieldName.{IsFieldName}
use Rattle.http_header.specs.FieldValue.{IsFieldValue}
use Rattle.http_header.specs.Token.{lowercase}
use Rattle.header_maps.specs.declared.kind.ListKind.{ListKind}
use Rattle.header_maps.specs.Faults.{set_fault}
use Rattle.header_maps.specs.Headers.{Headers}
use Rattle.header_maps.specs.Judged.{is_field_name, is_field_value, status_of, status_text}
use Rattle.header_maps.specs.Kept.{IsHeaders}
use Rattle.header_maps.specs.Operations.{get_of, added, removed, without, replaced, all_set}
use Rattle.header_maps.specs.Pairs.{Pair, lowered, is_named, values_of, joined_behind, plain_among}

-- names and values are judged as `http_header` judges them
pub record JudgedAlike : Type 0 where
  pub names : (name : List ℕ) → (is_field_name name ≡ true) ↔ IsFieldName name
  pub values : (value : List ℕ) → (is_field_value value ≡ true) ↔ IsFieldValue value

-- the digits of a status are read back as that status
abbrev pub StatusReadBack : Type 0
StatusReadBack = (n : ℕ) → n < 1000 → status_of (status_text n) ≡ Some n

-- what is added is found behind the former values of its name, and under no other name
pub record AddedIsFound : Type 0 where
  pub found : (h : Headers) (name value : List ℕ) → get_of (added h name value) name ≡ Some (joined_behind (get_of h name) value)
  pub others :
      (h : Headers) (name value other : List ℕ) → (lowercase other ≡ lowercase name → ⊥)
      → get_of (added h name value) other ≡ get_of h other

-- what is removed is not found, and nothing else changes
pub record RemovedIsAbsent : Type 0 where
  pub absent : (h : Headers) (name : List ℕ) → get_of (removed h name) name ≡ None
  pub others :
      (h : Headers) (name other : List ℕ) → (lowercase other ≡ lowercase name → ⊥) → get_of (removed h name) other ≡ get_of h other

-- what is put in place is the one value under its name; it stands where the name's first field stood, or last where there was
-- none; and the other fields stay, in order
pub record ReplacedInPlace : Type 0 where
  pub found : (h : Headers) (name value : List ℕ) → get_of (replaced h name value) name ≡ Some value
  pub place :
      (h : Headers) (name value : List ℕ)
      → position (is_named (lowercase name)) (replaced h name value).pairs ≡ Some (position_or_len (is_named (lowercase name)) h.pairs)
  pub others :
      (h : Headers) (name value : List ℕ)
      → without (lowercase name) (replaced h name value).pairs ≡ without (lowercase name) h.pairs

-- a list that is given its own pairs stays as it is
abbrev pub SetGivesBack : Type 0
SetGivesBack = (h : Headers) → IsHeaders h → all_set h.kind h.pairs ≡ h

-- what is given for a whole list and not refused is kept, up to the case of names and their order: each name has the values
-- that were given, in order, and so the pseudo-headers, and the fields stay in order
pub record SetKeepsGiven : Type 0 where
  pub values :
      (kind : ListKind) (given : List Pair) (name : List ℕ) → set_fault kind given ≡ None
      → values_of (lowercase name) (all_set kind given).pairs ≡ values_of (lowercase name) given
  pub fields :
      (kind : ListKind) (given : List Pair) → plain_among (all_set kind given).pairs ≡ map lowered (plain_among given)
