-- The pseudo-headers of each kind of list, and what is a name and a value in one.
use Rattle.std.specs.Prelude.{ℕ, Bool, false, List, [], ◌∷◌, codes, bytes_eq, if◌then◌else◌}
use Rattle.std.specs.List.{list_any}
use Rattle.http_header.specs.Token.{lowercase}
use Rattle.header_maps.specs.declared.kind.ListKind.{ListKind}
use Rattle.header_maps.specs.declared.kind.ListKind.TheVariants.{Request, Response, Interim, Plain}
use Rattle.header_maps.specs.Pairs.{is_pseudo}
use Rattle.header_maps.specs.Judged.{is_field_name, is_field_value, is_method, is_scheme, is_authority, is_path, is_status}

-- the pseudo-headers of a list, in the order in which they stand in it
abbrev pub pseudo_names : ListKind → List (List ℕ)
pseudo_names Request = codes ":method" ∷ codes ":scheme" ∷ codes ":authority" ∷ codes ":path" ∷ []
pseudo_names Response = codes ":status" ∷ []
pseudo_names Interim = codes ":status" ∷ []
pseudo_names Plain = []

-- a name that a list of this kind may have, in any case of letters
abbrev pub is_name_for : ListKind → List ℕ → Bool
is_name_for kind name =
    if is_pseudo name then list_any (bytes_eq (lowercase name)) (pseudo_names kind) else is_field_name name

-- a status code of a list of this kind: 100 to 199 in an interim head, 200 to 599 in a response
abbrev pub is_status_for : ListKind → List ℕ → Bool
is_status_for Request value = false
is_status_for Response value = is_status 200 599 value
is_status_for Interim value = is_status 100 199 value
is_status_for Plain value = false

-- the value is right for this pseudo-header, whose name is in lower case
abbrev pub is_pseudo_value : ListKind → List ℕ → List ℕ → Bool
is_pseudo_value kind name value =
    if bytes_eq name (codes ":method") then is_method value
    else (if bytes_eq name (codes ":scheme") then is_scheme value
    else (if bytes_eq name (codes ":authority") then is_authority value
    else (if bytes_eq name (codes ":path") then is_path value
    else is_status_for kind value)))

-- the value is right for this name, which is in lower case
abbrev pub is_value_for : ListKind → List ℕ → List ℕ → Bool
is_value_for kind name value = if is_pseudo name then is_pseudo_value kind name value else is_field_value value
