-- What every header list keeps.
use Rattle.std.specs.Prelude.{◌≡◌, ◌≤◌, ℕ, Bool, true, ◌&&◌, List, [], ◌∷◌, length, bytes_eq, nat_le}
use Rattle.std.specs.List.{list_all}
use Rattle.http_header.specs.Token.{lowercase}
use Rattle.header_maps.specs.declared.kind.ListKind.{ListKind}
use Rattle.header_maps.specs.Headers.{Headers}
use Rattle.header_maps.specs.Judged.{is_field_name, is_field_value}
use Rattle.header_maps.specs.Kinds.{pseudo_names, is_value_for}
use Rattle.header_maps.specs.Pairs.{Pair}

-- how many bytes a name or a value may have
abbrev pub byte_limit : ℕ
byte_limit = 16777216

abbrev pub is_short : Pair → Bool
is_short field = nat_le (length field.0) byte_limit && nat_le (length field.1) byte_limit

-- the name of a field in lower case, and a value of a field
abbrev pub is_kept_field : Pair → Bool
is_kept_field field = (is_field_name field.0 && bytes_eq (lowercase field.0) field.0) && is_field_value field.1

-- at most 100 fields, and nothing else
pub record AreFields (pairs : List Pair) : Type 0 where
  pub kept : list_all is_kept_field pairs ≡ true
  pub few : length pairs ≤ 100

-- a pseudo-header of that name with a value that is right
pub record IsPseudoHeader (kind : ListKind) (name : List ℕ) (field : Pair) : Type 0 where
  pub name_is : field.0 ≡ name
  pub value : is_value_for kind name field.1 ≡ true

-- the pairs are pseudo-headers of these names, in this order, and then fields
abbrev pub BeginsWith : ListKind → List (List ℕ) → List Pair → Type 0
BeginsWith kind [] pairs = AreFields pairs
BeginsWith kind (name ∷ names) [] = ⊥
BeginsWith kind (name ∷ names) (p ∷ ps) = IsPseudoHeader kind name p × BeginsWith kind names ps

-- the pseudo-headers of the list's kind stand first, each once, in order and with a right value; then stand at most 100 fields
-- with valid names in lower case and valid values; no name or value is longer than the limit
pub record IsHeaders (headers : Headers) : Type 0 where
  pub shape : BeginsWith headers.kind (pseudo_names headers.kind) headers.pairs
  pub short : list_all is_short headers.pairs ≡ true
