-- Why a value, a key or a table is refused, by its number, and what it is where it is not.
use Rattle.std.specs.Prelude.{◌≡◌, ℕ, ℤ, pos, negsuc, List, [], ◌∷◌, Bool, false, not, ◌&&◌, ◌||◌, nat_le, nat_lt, length, map, bytes_eq, codes, Option, Some, None, is_some, unwrap_or, if◌then◌else◌}
use Rattle.std.specs.List.{list_any, list_all}
use Rattle.toml.specs.Data.{Data, Items, no_items, item, Members, no_members, member, get_member, as_str, as_integer, as_array}
use Rattle.matchit.specs.Route.{parse_route}
use Rattle.gate_config.specs.Given.{Given}
use Rattle.gate_config.specs.Routes.{fits, table_of}
use Rattle.config_reader.specs.declared.keys.KeyKind.{KeyKind}
use Rattle.config_reader.specs.declared.keys.KeyKind.TheVariants as kind
use Rattle.config_reader.specs.Address.{is_address}
use Rattle.config_names.specs.Names.{has_vm, has_plugin, plugin_number}
use Rattle.config_reader.specs.Rows.{Row, Absence, needed, number, text}
use Rattle.config_reader.specs.Words.{is_name, level_of}

-- ---- one value

abbrev pub natural : Option ℤ → Option ℕ
natural None = None
natural (Some (pos n)) = Some n
natural (Some (negsuc n)) = None

abbrev pub number_fault : ℕ → ℕ → Option ℕ → Option ℕ
number_fault least most None = Some 4
number_fault least most (Some n) = if nat_le least n && nat_le n most then None else Some 4

abbrev pub text_fault : ℕ → ℕ → Option (List ℕ) → Option ℕ
text_fault least most None = Some 4
text_fault least most (Some s) = if nat_le least (length s) && nat_le (length s) most then None else Some 4

abbrev pub address_fault : Option (List ℕ) → Option ℕ
address_fault None = Some 4
address_fault (Some s) = if is_address s then None else Some 4

abbrev pub level_fault : Option (List ℕ) → Option ℕ
level_fault None = Some 4
level_fault (Some s) = if is_some (level_of s) then None else Some 4

abbrev pub choice_fault : Option (List ℕ) → Option ℕ
choice_fault None = Some 4
choice_fault (Some s) = if bytes_eq s (codes "closed") || bytes_eq s (codes "open") then None else Some 4

-- the name that a text is
abbrev pub name_in : Option (List ℕ) → Option (List ℕ)
name_in None = None
name_in (Some s) = if is_name s then Some s else None

abbrev pub fault_if : ℕ → (List ℕ → Bool) → Option (List ℕ) → Option ℕ
fault_if why is_refused None = Some 4
fault_if why is_refused (Some s) = if is_refused s then Some why else None

-- a name, refused with this number where the test says so
abbrev pub name_fault : ℕ → (List ℕ → Bool) → Option (List ℕ) → Option ℕ
name_fault why is_refused o = fault_if why is_refused (name_in o)

-- a path that the router of the routes so far does not take
abbrev pub path_fault : Given → Option (List ℕ) → Option ℕ
path_fault g None = Some 4
path_fault g (Some s) = if fits (parse_route s) (table_of g.routes) then None else Some 6

-- ---- a list of names

abbrev pub list_of : Items → List Data
list_of no_items = []
list_of (item d ds) = d ∷ list_of ds

abbrev pub text_of : Data → List ℕ
text_of d = unwrap_or (as_str d) []

abbrev pub is_a_name : Data → Bool
is_a_name d = is_some (name_in (as_str d))

abbrev pub is_among : Data → List Data → Bool
is_among d ds = list_any (λ e. bytes_eq (text_of e) (text_of d)) ds

-- one of the names comes twice
abbrev pub repeats : List Data → Bool
repeats [] = false
repeats (d ∷ ds) = is_among d ds || repeats ds

abbrev pub names_fault : Given → List Data → Option ℕ
names_fault g ds =
    if list_all is_a_name ds
    then (if nat_lt 16 (length ds) then Some 7
    else (if repeats ds then Some 8
    else (if list_all (λ d. has_plugin g (text_of d)) ds then None else Some 5)))
    else Some 4

abbrev pub filters_fault : Given → Option Items → Option ℕ
filters_fault g None = Some 4
filters_fault g (Some ds) = names_fault g (list_of ds)

-- ---- the plug-ins of streams

-- One name at least, 16 at most, and none twice. Whether plug-ins have these names is judged once the plug-ins are read.
abbrev pub streams_form : List Data → Option ℕ
streams_form ds =
    if list_all is_a_name ds
    then (if nat_lt (length ds) 1 then Some 4
    else (if nat_lt 16 (length ds) then Some 7
    else (if repeats ds then Some 8 else None)))
    else Some 4

-- why a value is no list of them
abbrev pub streams_fault : Option Items → Option ℕ
streams_fault None = Some 4
streams_fault (Some ds) = streams_form (list_of ds)

-- beside a route no value is one
abbrev pub tcp_fault : (has_routes : Bool) → Option Items → Option ℕ
tcp_fault has_routes o = if has_routes then Some 4 else streams_fault o

abbrev pub value_fault : KeyKind → Given → Data → Option ℕ
value_fault (kind.Number least most) g d = number_fault least most (natural (as_integer d))
value_fault (kind.Text least most) g d = text_fault least most (as_str d)
value_fault kind.Address g d = address_fault (as_str d)
value_fault kind.Level g d = level_fault (as_str d)
value_fault kind.OpenOrClosed g d = choice_fault (as_str d)
value_fault kind.NewVm g d = name_fault 8 (has_vm g) (as_str d)
value_fault kind.NewPlugin g d = name_fault 8 (has_plugin g) (as_str d)
value_fault kind.SomeVm g d = name_fault 5 (λ s. not (has_vm g s)) (as_str d)
value_fault kind.Path g d = path_fault g (as_str d)
value_fault kind.Filters g d = filters_fault g (as_array d)
value_fault (kind.Streams has_routes) g d = tcp_fault has_routes (as_array d)
value_fault kind.Tables g d = None

-- ---- one key, and one table

abbrev pub missing_fault : Absence → Option ℕ
missing_fault needed = Some 2
missing_fault _ = None

abbrev pub found_fault : Row → Given → Option Data → Option ℕ
found_fault key g None = missing_fault key.absence
found_fault key g (Some d) = value_fault key.kind g d

abbrev pub fault_of : Row → Given → Members → Option ℕ
fault_of key g ms = found_fault key g (get_member key.name ms)

-- a refusal's number and key
abbrev pub Fault : Type 0
Fault = Option (ℕ × List ℕ)

abbrev pub or_then : List ℕ → Option ℕ → Fault → Fault
or_then key (Some why) rest = Some (why, key)
or_then key None rest = rest

abbrev pub first_fault : List Row → Given → Members → Fault
first_fault [] g ms = None
first_fault (key ∷ keys) g ms = or_then key.name (fault_of key g ms) (first_fault keys g ms)

abbrev pub is_key : List Row → List ℕ → Bool
is_key keys name = list_any (λ key. bytes_eq key.name name) keys

-- the first key that is none of these; keys ascend in byte order
abbrev pub unknown_key : List Row → Members → Option (List ℕ)
unknown_key keys no_members = None
unknown_key keys (member k d ms) = if is_key keys k then unknown_key keys ms else Some k

abbrev pub or_unknown : Option (List ℕ) → Fault → Fault
or_unknown (Some key) rest = Some (3, key)
or_unknown None rest = rest

abbrev pub table_fault : List Row → Given → Members → Fault
table_fault keys g ms = or_unknown (unknown_key keys ms) (first_fault keys g ms)

-- ---- values with their defaults

abbrev pub number_default : Absence → ℕ
number_default (number n) = n
number_default _ = 0

abbrev pub number_in : Row → Option Data → ℕ
number_in key None = number_default key.absence
number_in key (Some d) = unwrap_or (natural (as_integer d)) 0

abbrev pub number_at : Row → Members → ℕ
number_at key ms = number_in key (get_member key.name ms)

abbrev pub text_default : Absence → List ℕ
text_default (text t) = t
text_default _ = []

abbrev pub text_in : Row → Option Data → List ℕ
text_in key None = text_default key.absence
text_in key (Some d) = text_of d

abbrev pub text_at : Row → Members → List ℕ
text_at key ms = text_in key (get_member key.name ms)

-- the places of the plug-ins of these names
abbrev pub places_in : Given → List Data → List ℕ
places_in g ds = map (λ d. plugin_number g (text_of d)) ds

-- the same of a list, and none of what is no list
abbrev pub places_of : Given → Option Items → List ℕ
places_of g None = []
places_of g (Some ds) = map (λ d. plugin_number g (text_of d)) (list_of ds)

abbrev pub filters_in : Given → Option Data → List ℕ
filters_in g None = []
filters_in g (Some d) = places_of g (as_array d)

abbrev pub filters_at : Row → Given → Members → List ℕ
filters_at key g ms = filters_in g (get_member key.name ms)
