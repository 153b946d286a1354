-- The pairs of a request that a filter makes.
use Rattle.std.specs.Prelude.{ℕ, ◌==◌, Bool, ◌&&◌, List, [], ◌∷◌, length, filter, codes, Option, if◌then◌else◌}
use Rattle.std.specs.List.{list_all}
use Rattle.header_maps.specs.declared.kind.ListKind.TheVariants as kinds
use Rattle.header_maps.specs.Faults.{Fault, first_fault, are_values_for, is_few}
use Rattle.header_maps.specs.Kinds.{is_name_for}
use Rattle.header_maps.specs.Pairs.{Pair, is_named}

-- the scheme where none is given
abbrev pub scheme_field : Pair
scheme_field = (codes ":scheme", codes "http")

-- how many pairs are of a name, which is in lower case
abbrev pub count_of : List ℕ → List Pair → ℕ
count_of name pairs = length (filter (is_named name) pairs)

-- no pair is a scheme
abbrev pub lacks_scheme : List Pair → Bool
lacks_scheme pairs = count_of (codes ":scheme") pairs == 0

-- the pairs, with the scheme `http` before them where they have none
abbrev pub with_scheme : List Pair → List Pair
with_scheme pairs = if lacks_scheme pairs then scheme_field ∷ pairs else pairs

-- the pseudo-headers of a request that have to be given
abbrev pub needed_names : List (List ℕ)
needed_names = codes ":method" ∷ codes ":authority" ∷ codes ":path" ∷ []

-- each of them stands there exactly once
abbrev pub has_needed_once : List Pair → Bool
has_needed_once pairs = list_all (λ name. count_of name pairs == 1) needed_names

-- each name is one of a request, and each pseudo-header but the scheme stands there once
abbrev pub are_needed_names : List Pair → Bool
are_needed_names pairs = list_all (λ (f : Pair). is_name_for kinds.Request f.0) pairs && has_needed_once pairs

-- why they make no request with a scheme before them
abbrev pub needed_fault : List Pair → Option Fault
needed_fault pairs = first_fault (are_needed_names pairs) (are_values_for kinds.Request pairs) (is_few pairs)
