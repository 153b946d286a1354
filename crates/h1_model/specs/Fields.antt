-- The fields of a message as names and values, and those that end at this hop (RFC 9110, sections 5 and 7.6.1).
use Rattle.std.specs.Prelude.{ℕ, Bool, ◌||◌, not, List, [], ◌∷◌, map, filter, codes, bytes_eq, ◌==◌}
use Rattle.std.specs.List.{list_any, slice_split}
use Rattle.http_header.specs.Token.{lowercase}
use Rattle.httparse.specs.Ascii.{comma}
use Rattle.httparse.specs.Grammar.{trim_ows}

-- a name, and a value without the blanks around it
abbrev pub Pair : Type 0
Pair = List ℕ × List ℕ

-- the field has this name, which is in lower case; names are compared without regard to case (RFC 9110, section 5.1)
abbrev pub is_named : List ℕ → Pair → Bool
is_named name field = bytes_eq (lowercase field.0) name

-- the values of the field lines of that name, in order
abbrev pub values_of : List ℕ → List Pair → List (List ℕ)
values_of name fields = map (λ (f : Pair). f.1) (filter (is_named name) fields)

-- the members of a list in a value, without the blanks around each; a member may be empty (RFC 9110, section 5.6.1)
abbrev pub members : List ℕ → List (List ℕ)
members value = map trim_ows (slice_split (λ b. b == comma) value)

-- a member of the value is this name, which is in lower case
abbrev pub lists : List ℕ → List ℕ → Bool
lists name value = list_any (λ m. bytes_eq (lowercase m) name) (members value)

-- a Connection field lists this name, which is in lower case (RFC 9110, section 7.6.1)
abbrev pub is_listed : List ℕ → List Pair → Bool
is_listed name fields = list_any (lists name) (values_of (codes "connection") fields)

-- the names of fields that never pass a gateway, and `host`, which the head holds as its authority
abbrev pub hop_names : List (List ℕ)
hop_names =
    codes "connection" ∷ codes "keep-alive" ∷ codes "proxy-connection" ∷ codes "te" ∷ codes "transfer-encoding"
    ∷ codes "upgrade" ∷ codes "host" ∷ []

abbrev pub is_hop_name : List ℕ → Bool
is_hop_name name = list_any (bytes_eq name) hop_names

-- the same of a response, in which `host` is a field like any other
abbrev pub response_hop_names : List (List ℕ)
response_hop_names =
    codes "connection" ∷ codes "keep-alive" ∷ codes "proxy-connection" ∷ codes "te" ∷ codes "transfer-encoding" ∷ codes "upgrade" ∷ []

abbrev pub is_response_hop_name : List ℕ → Bool
is_response_hop_name name = list_any (bytes_eq name) response_hop_names

-- a field of this name, in lower case, is dropped from a request with these fields
abbrev pub is_dropped : List Pair → List ℕ → Bool
is_dropped fields name = is_hop_name name || is_listed name fields

-- the same of a response
abbrev pub is_dropped_from_response : List Pair → List ℕ → Bool
is_dropped_from_response fields name = is_response_hop_name name || is_listed name fields

-- those of the fields whose names, in lower case, are not dropped, as they were received
abbrev pub passing_among : (List ℕ → Bool) → List Pair → List Pair
passing_among dropped fields = filter (λ (f : Pair). not (dropped (lowercase f.0))) fields

-- the fields that pass, of a request head and of a response head with these fields
abbrev pub passing_fields : List Pair → List Pair
passing_fields fields = passing_among (is_dropped fields) fields

abbrev pub passing_response_fields : List Pair → List Pair
passing_response_fields fields = passing_among (is_dropped_from_response fields) fields

-- those of some fields, with names in lower case, that none of these Connection values lists (RFC 9110, section 7.6.1)
abbrev pub fields_not_listed : List (List ℕ) → List Pair → List Pair
fields_not_listed connection fields = filter (λ (f : Pair). not (list_any (lists f.0) connection)) fields

-- the name in lower case
abbrev pub lowercase_name : Pair → Pair
lowercase_name field = (lowercase field.0, field.1)

-- of some of the fields of a request head with all these fields, those that are kept, in order, with their names in lower case
abbrev pub kept_among : List Pair → List Pair → List Pair
kept_among all fields = filter (λ (f : Pair). not (is_dropped all f.0)) (map lowercase_name fields)

abbrev pub kept_fields : List Pair → List Pair
kept_fields fields = kept_among fields fields

abbrev pub kept_response_fields : List Pair → List Pair
kept_response_fields fields = map lowercase_name (passing_response_fields fields)
