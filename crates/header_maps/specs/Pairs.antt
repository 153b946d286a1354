-- Lists of fields as pairs of a name and a value, in order (RFC 9110, section 5).
use Rattle.std.specs.Prelude.{ℕ, Bool, not, List, [], ◌∷◌, ◌++◌, map, filter, length, slice_index, bytes_eq, Option, None, Some, ◌==◌}
use Rattle.std.specs.List.{join_with_byte}
use Rattle.http_header.specs.Token.{lowercase}

-- a name, and a value
abbrev pub Pair : Type 0
Pair = List ℕ × List ℕ

-- the name in lower case
abbrev pub lowered : Pair → Pair
lowered field = (lowercase field.0, field.1)

-- the field has this name, which is in lower case; names are compared without regard to case (RFC 9110, section 5.1)
abbrev pub is_named : List ℕ → Pair → Bool
is_named name field = bytes_eq (lowercase field.0) name

abbrev pub is_not_named : List ℕ → Pair → Bool
is_not_named name field = not (is_named name field)

-- the values of the fields of that name, in order
abbrev pub values_of : List ℕ → List Pair → List (List ℕ)
values_of name fields = map (λ (f : Pair). f.1) (filter (is_named name) fields)

-- `,`
abbrev pub comma : ℕ
comma = 44

-- the values as one, joined by one comma each; there is none where there is no value
abbrev pub joined : List (List ℕ) → Option (List ℕ)
joined [] = None
joined (value ∷ values) = Some (join_with_byte comma (value ∷ values))

-- the values so far with one more behind a comma, or that one alone
abbrev pub joined_behind : Option (List ℕ) → List ℕ → List ℕ
joined_behind None value = value
joined_behind (Some values) value = values ++ comma ∷ value

-- `:`
abbrev pub colon : ℕ
colon = 58

-- the name of a pseudo-header, which begins with `:`
abbrev pub is_pseudo : List ℕ → Bool
is_pseudo name = slice_index name 0 == colon

-- a field that is no pseudo-header
abbrev pub is_plain : Pair → Bool
is_plain field = not (is_pseudo field.0)

-- those of the pairs that are fields, without the pseudo-headers, and how many they are
abbrev pub plain_among : List Pair → List Pair
plain_among pairs = filter is_plain pairs

abbrev pub plain_count : List Pair → ℕ
plain_count pairs = length (plain_among pairs)
