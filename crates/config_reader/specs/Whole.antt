-- THE CONFIGURATION OF A TEXT, or its first refusal: the tables in their order, in each table its keys in their order.
use Rattle.std.specs.Prelude.{◌≡◌, ℕ, ◌+◌, ◌^◌, nat_lt, List, [], ◌∷◌, ◌++◌, length, bytes_eq, codes, decimal, Bool, false, Option, Some, None, is_some, option_map, unwrap_or, Result, Ok, Err, if◌then◌else◌}
use Rattle.std.specs.List.{list_all}
use Rattle.std.specs.Str.{is_utf8}
use Rattle.toml.specs.Data.{Data, Items, Members, no_members, get_member, as_array, as_table}
use Rattle.toml.specs.Parse.{parse_document}
use Rattle.gate_base.specs.declared.level.Level.{Level}
use Rattle.gate_base.specs.declared.level.Level.TheVariants.{Info}
use Rattle.gate_config.specs.declared.config.Config.{Config}
use Rattle.gate_config.specs.declared.entries.VmEntry.{VmEntry}
use Rattle.gate_config.specs.declared.entries.PluginEntry.{PluginEntry}
use Rattle.gate_config.specs.declared.entries.RouteEntry.{RouteEntry}
use Rattle.gate_config.specs.Given.{Given, given, bare, with_vm, with_plugin, with_entry, route_with}
use Rattle.config_reader.specs.Judge.{Fault, table_fault, unknown_key, number_at, text_at, text_of, filters_at, places_in, list_of}
use Rattle.config_names.specs.Names.{has_plugin, vm_number}
use Rattle.config_reader.specs.Rows.{Row, gateway_keys, vm_keys, plugin_keys, route_keys, top_keys, listen, upstream, workers, deadline_ms, log_level, vm_name, vm_module, configuration, fuel, pages, plugin_name, plugin_vm, fail, path, filters}
use Rattle.config_reader.specs.Words.{level_of}
use Rattle.config_reader.specs.declared.read.ConfigEnd.{ConfigEnd}
use Rattle.config_reader.specs.declared.read.ConfigEnd.TheVariants.{Refused, OutOfMemory}
use Rattle.config_reader.specs.declared.section.TableArray.{TableArray}
use Rattle.config_reader.specs.declared.section.TableArray.TheVariants.{Vm, Plugin, Route}

-- a configuration, or a refusal's number and key
abbrev pub Judged : Type 0
Judged = Result Given (ℕ × List ℕ)

-- what the code answers: exactly this configuration, or exactly this refusal; want of memory may come at any time
abbrev pub Answers : Judged → Result Config ConfigEnd → Type 0
Answers judged (Ok c) = judged ≡ Ok (given c)
Answers judged (Err (Refused number key)) = judged ≡ Err (number, key)
Answers judged (Err OutOfMemory) = Unit {0}

-- the same of code that changes a configuration, which is this one at its end
abbrev pub Ends : Judged → Result (Unit {0}) ConfigEnd → Given → Type 0
Ends judged (Ok u) now = judged ≡ Ok now
Ends judged (Err (Refused number key)) now = judged ≡ Err (number, key)
Ends judged (Err OutOfMemory) now = Unit {0}

-- a refusal with this number at this key, or want of memory
abbrev pub Refuses : ℕ → List ℕ → ConfigEnd → Type 0
Refuses number key (Refused n k) = (n ≡ number) × (k ≡ key)
Refuses number key OutOfMemory = Unit {0}

abbrev pub and_then : Judged → (Given → Judged) → Judged
and_then (Ok g) next = next g
and_then (Err e) next = Err e

-- refused at this key of a table, or else
abbrev pub unless : List ℕ → Fault → Judged → Judged
unless front None rest = rest
unless front (Some f) rest = Err (f.0, front ++ f.1)

-- ---- the arrays of tables

abbrev pub name_of : TableArray → List ℕ
name_of Vm = codes "vm"
name_of Plugin = codes "plugin"
name_of Route = codes "route"

abbrev pub keys_of : TableArray → List Row
keys_of Vm = vm_keys
keys_of Plugin = plugin_keys
keys_of Route = route_keys

abbrev pub most_of : TableArray → ℕ
most_of Vm = 16
most_of Plugin = 64
most_of Route = 256

-- how many entries there are so far
abbrev pub length_of : TableArray → Given → ℕ
length_of Vm g = length g.vms
length_of Plugin g = length g.plugins
length_of Route g = length g.routes

abbrev pub vm_of : Members → VmEntry
vm_of ms = record { name = text_at vm_name ms; «module» = text_at vm_module ms; configuration = text_at configuration ms; fuel = number_at fuel ms; pages = number_at pages ms; code = None }

abbrev pub plugin_of : Given → Members → PluginEntry
plugin_of g ms = record { name = text_at plugin_name ms; vm = vm_number g (text_at plugin_vm ms); configuration = text_at configuration ms; fail_open = bytes_eq (text_at fail ms) (codes "open") }

abbrev pub route_of : Given → Members → RouteEntry
route_of g ms = route_with (text_at path ms) (filters_at filters g ms)

-- with the entry of a table
abbrev pub given_with_entry : TableArray → Members → Given → Given
given_with_entry Vm ms g = with_vm (vm_of ms) g
given_with_entry Plugin ms g = with_plugin (plugin_of g ms) g
given_with_entry Route ms g = with_entry (route_of g ms) g

abbrev pub members_in : Data → Members
members_in d = unwrap_or (as_table d) no_members

-- what stands before a key of an entry: its array's name and its place, from 0
abbrev pub entry_front : TableArray → ℕ → List ℕ
entry_front section place = ((name_of section ++ codes ".") ++ decimal place) ++ codes "."

abbrev pub judge_entries : TableArray → ℕ → List Data → Given → Judged
judge_entries section place [] g = Ok g
judge_entries section place (d ∷ ds) g =
    unless (entry_front section place) (table_fault (keys_of section) g (members_in d))
    (judge_entries section (place + 1) ds (given_with_entry section (members_in d) g))

-- first the form, then the count, then the entries
abbrev pub judge_items : TableArray → Given → List Data → Judged
judge_items section g ds =
    if list_all (λ d. is_some (as_table d)) ds
    then (if nat_lt (most_of section) (length ds) then Err (7, name_of section) else judge_entries section 0 ds g)
    else Err (4, name_of section)

abbrev pub judge_list : TableArray → Given → Option Items → Judged
judge_list section g None = Err (4, name_of section)
judge_list section g (Some ds) = judge_items section g (list_of ds)

abbrev pub judge_found : TableArray → Given → Option Data → Judged
judge_found section g None = Ok g
judge_found section g (Some d) = judge_list section g (as_array d)

abbrev pub judge_array : TableArray → Members → Given → Judged
judge_array section ms g = judge_found section g (get_member (name_of section) ms)

abbrev pub judge_arrays : Members → Given → Judged
judge_arrays ms g = and_then (judge_array Vm ms g) (λ a. and_then (judge_array Plugin ms a) (judge_array Route ms))

-- ---- `gateway`

abbrev pub level_at : Members → Level
level_at ms = unwrap_or (level_of (text_at log_level ms)) Info

abbrev pub gateway_of : Members → Given
gateway_of ms = bare (number_at workers ms) (text_at listen ms) (text_at upstream ms) (number_at deadline_ms ms) (level_at ms)

abbrev pub judge_gateway : (has_routes : Bool) → Members → Judged
judge_gateway has_routes ms = unless (codes "gateway.") (table_fault (gateway_keys has_routes) (gateway_of no_members) ms) (Ok (gateway_of ms))

abbrev pub gateway_in : (has_routes : Bool) → Option (Option Members) → Judged
gateway_in has_routes None = judge_gateway has_routes no_members
gateway_in has_routes (Some None) = Err (4, codes "gateway")
gateway_in has_routes (Some (Some ms)) = judge_gateway has_routes ms

-- an array with an entry stands there. (What is no array is refused with `route`.)
abbrev pub routes_in : Option (Option Items) → Bool
routes_in None = false
routes_in (Some None) = false
routes_in (Some (Some ds)) = nat_lt 0 (length (list_of ds))

-- there is a `[[route]]`
abbrev pub has_routes : Members → Bool
has_routes ms = routes_in (option_map as_array (get_member (codes "route") ms))

abbrev pub gateway_at : Members → Judged
gateway_at ms = gateway_in (has_routes ms) (option_map as_table (get_member (codes "gateway") ms))

-- ---- `tcp` of `gateway`, once the plug-ins and the routes are read

-- the key, as a refusal names it
abbrev pub tcp_key : List ℕ
tcp_key = codes "gateway.tcp"

-- what stands there in `gateway`, if that is a table
abbrev pub tcp_in : Option (Option Members) → Option Data
tcp_in None = None
tcp_in (Some None) = None
tcp_in (Some (Some ms)) = get_member (codes "tcp") ms

-- the same, in a whole text
abbrev pub tcp_at : Members → Option Data
tcp_at ms = tcp_in (option_map as_table (get_member (codes "gateway") ms))

-- a plug-in has each of these names
abbrev pub all_plugins : Given → List Data → Bool
all_plugins g ds = list_all (λ d. has_plugin g (text_of d)) ds

-- the lines are streams of bytes that pass these plug-ins
abbrev pub with_tcp : List ℕ → Given → Given
with_tcp places g = record g { tcp = places }

-- A plug-in has each of the names.
abbrev pub judge_names : Given → List Data → Judged
judge_names g ds = if all_plugins g ds then Ok (with_tcp (places_in g ds) g) else Err (5, tcp_key)

-- (What is no array was refused with `gateway`.)
abbrev pub judge_streams : Given → Option Items → Judged
judge_streams g None = Err (4, tcp_key)
judge_streams g (Some ds) = judge_names g (list_of ds)

-- what stands at `tcp`, if anything does
abbrev pub judge_tcp_found : Given → Option Data → Judged
judge_tcp_found g None = Ok g
judge_tcp_found g (Some d) = judge_streams g (as_array d)

-- `tcp` of a whole text
abbrev pub judge_tcp : Members → Given → Judged
judge_tcp ms g = judge_tcp_found g (tcp_at ms)

-- ---- the whole

abbrev pub judge_tables : Option (List ℕ) → Members → Judged
judge_tables (Some key) ms = Err (3, key)
judge_tables None ms = and_then (and_then (gateway_at ms) (judge_arrays ms)) (judge_tcp ms)

abbrev pub judge : Option Members → Judged
judge None = Err (1, codes "-")
judge (Some ms) = judge_tables (unknown_key top_keys ms) ms

-- a text of more than 1 MiB is refused before it is read
abbrev pub config_of : List ℕ → Judged
config_of bytes =
    if nat_lt (2 ^ 20) (length bytes) then Err (7, codes "-")
    else (if is_utf8 bytes then judge (parse_document bytes) else Err (1, codes "-"))
