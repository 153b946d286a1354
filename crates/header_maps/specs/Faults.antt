-- When a field operation is refused, and with what: a name, then a value, then the count.
use Rattle.std.specs.Prelude.{ℕ, Bool, true, ◌&&◌, List, filter, length, Option, None, Some, Result, Ok, Err, ◌==◌, nat_le, if◌then◌else◌}
use Rattle.std.specs.List.{list_all}
use Rattle.http_header.specs.Token.{lowercase}
use Rattle.header_maps.specs.declared.end.HeaderEnd.{HeaderEnd}
use Rattle.header_maps.specs.declared.end.HeaderEnd.TheVariants.{BadName, BadValue, TooMany, OutOfMemory}
use Rattle.header_maps.specs.declared.kind.ListKind.{ListKind}
use Rattle.header_maps.specs.Headers.{Headers}
use Rattle.header_maps.specs.Judged.{is_field_name, is_field_value, is_method, is_scheme, is_authority, is_path}
use Rattle.header_maps.specs.Kinds.{pseudo_names, is_name_for, is_value_for}
use Rattle.header_maps.specs.Operations.{added, replaced}
use Rattle.header_maps.specs.Pairs.{Pair, is_named, plain_count}

pub data Fault : Type 0 where
  bad_name : Fault
  bad_value : Fault
  too_many : Fault

-- how many fields a list may have, pseudo-headers not counted
abbrev pub field_limit : ℕ
field_limit = 100

-- the first of the faults
abbrev pub first_fault : Bool → Bool → Bool → Option Fault
first_fault names values few =
    if names then (if values then (if few then None else Some too_many) else Some bad_value) else Some bad_name

-- at most 100 fields
abbrev pub is_few : List Pair → Bool
is_few pairs = nat_le (plain_count pairs) field_limit

-- no pseudo-header is added
abbrev pub add_fault : Headers → List ℕ → List ℕ → Option Fault
add_fault headers name value =
    first_fault (is_field_name name) (is_field_value value) (is_few (added headers name value).pairs)

abbrev pub replace_fault : Headers → List ℕ → List ℕ → Option Fault
replace_fault headers name value =
    first_fault (is_name_for headers.kind name) (is_value_for headers.kind (lowercase name) value)
    (is_few (replaced headers name value).pairs)

-- no pseudo-header is removed; that no field has the name is no fault
abbrev pub remove_fault : List ℕ → Option Fault
remove_fault name = first_fault (is_field_name name) true true

-- each pseudo-header stands there exactly once
abbrev pub has_each_once : ListKind → List Pair → Bool
has_each_once kind given = list_all (λ name. length (filter (is_named name) given) == 1) (pseudo_names kind)

abbrev pub are_names_for : ListKind → List Pair → Bool
are_names_for kind given = list_all (λ (f : Pair). is_name_for kind f.0) given && has_each_once kind given

abbrev pub are_values_for : ListKind → List Pair → Bool
are_values_for kind given = list_all (λ (f : Pair). is_value_for kind (lowercase f.0) f.1) given

-- all names before all values, and then the count; pseudo-headers may stand anywhere
abbrev pub set_fault : ListKind → List Pair → Option Fault
set_fault kind given = first_fault (are_names_for kind given) (are_values_for kind given) (is_few given)

-- the four pseudo-headers of a request
abbrev pub request_fault : List ℕ → List ℕ → List ℕ → List ℕ → Option Fault
request_fault method scheme authority path =
    first_fault true (is_method method && is_scheme scheme && is_authority authority && is_path path) true

-- a status from 100 to 599
abbrev pub response_fault : ℕ → Option Fault
response_fault status = first_fault true (nat_le 100 status && nat_le status 599) true

-- the fault that a refusal says; want of memory is none
abbrev pub fault_of_end : HeaderEnd → Option Fault
fault_of_end BadName = Some bad_name
fault_of_end BadValue = Some bad_value
fault_of_end TooMany = Some too_many
fault_of_end OutOfMemory = None

abbrev pub fault_of : {A : Type 0} → Result A HeaderEnd → Option Fault
fault_of (Ok a) = None
fault_of (Err e) = fault_of_end e
