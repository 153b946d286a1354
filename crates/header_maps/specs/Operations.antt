-- The field operations, as filters and maps over the whole list of pairs.
use Rattle.std.specs.Prelude.{ℕ, ◌+◌, List, [], ◌∷◌, ◌++◌, length, map, filter, sum_by, codes, Option, nat_lt, if◌then◌else◌}
use Rattle.std.specs.List.{flat_map, find}
use Rattle.std.specs.Option.{option_map}
use Rattle.http_header.specs.Token.{lowercase}
use Rattle.header_maps.specs.declared.kind.ListKind.{ListKind}
use Rattle.header_maps.specs.declared.kind.ListKind.TheVariants.{Request, Response, Interim, Plain}
use Rattle.header_maps.specs.Headers.{Headers}
use Rattle.header_maps.specs.Judged.{status_text}
use Rattle.header_maps.specs.Kinds.{pseudo_names}
use Rattle.header_maps.specs.Pairs.{Pair, lowered, is_named, is_not_named, values_of, joined, plain_among}

-- no fields and no pseudo-headers
abbrev pub no_headers : Headers
no_headers = record { kind = Plain; pairs = [] }

-- the pseudo-headers of a request
abbrev pub request_headers : List ℕ → List ℕ → List ℕ → List ℕ → Headers
request_headers method scheme authority path = record {
  kind = Request;
  pairs = (codes ":method", method) ∷ (codes ":scheme", scheme) ∷ (codes ":authority", authority) ∷ (codes ":path", path) ∷ [];
}

-- the kind of a response head with that status
abbrev pub status_kind : ℕ → ListKind
status_kind status = if nat_lt status 200 then Interim else Response

-- the pseudo-header of a response, or of an interim head
abbrev pub response_headers : ℕ → Headers
response_headers status = record { kind = status_kind status; pairs = (codes ":status", status_text status) ∷ [] }

-- the value under a name: those of all its fields, joined by one comma each
abbrev pub get_of : Headers → List ℕ → Option (List ℕ)
get_of headers name = joined (values_of (lowercase name) headers.pairs)

-- the value of the first field of a name
abbrev pub first_of : Headers → List ℕ → Option (List ℕ)
first_of headers name = option_map (λ (f : Pair). f.1) (find (is_named (lowercase name)) headers.pairs)

-- with the field put last
abbrev pub added : Headers → List ℕ → List ℕ → Headers
added headers name value = record { kind = headers.kind; pairs = headers.pairs ++ (lowercase name, value) ∷ [] }

-- without the fields of a name, which is in lower case
abbrev pub without : List ℕ → List Pair → List Pair
without name pairs = filter (is_not_named name) pairs

abbrev pub removed : Headers → List ℕ → Headers
removed headers name = record { kind = headers.kind; pairs = without (lowercase name) headers.pairs }

-- with the value put at the first field of the name, which is in lower case, and without its other fields; put last where
-- there is none
abbrev pub with_value : List ℕ → List ℕ → List Pair → List Pair
with_value name value [] = (name, value) ∷ []
with_value name value (p ∷ ps) = if is_named name p then (p.0, value) ∷ without name ps else p ∷ with_value name value ps

abbrev pub replaced : Headers → List ℕ → List ℕ → Headers
replaced headers name value = record { kind = headers.kind; pairs = with_value (lowercase name) value headers.pairs }

-- the given pairs with the pseudo-headers in front, in their order, then the fields as given, with names in lower case
abbrev pub in_order : ListKind → List Pair → List Pair
in_order kind given = flat_map (λ name. map lowered (filter (is_named name) given)) (pseudo_names kind) ++ map lowered (plain_among given)

abbrev pub all_set : ListKind → List Pair → Headers
all_set kind given = record { kind = kind; pairs = in_order kind given }

-- how many bytes the pairs take in the serialised form: a count, then two sizes a pair, and each name and value with a zero
-- byte behind it
abbrev pub pair_size : Pair → ℕ
pair_size field = 10 + length field.0 + length field.1

abbrev pub size_of : List Pair → ℕ
size_of pairs = 4 + sum_by pair_size pairs
