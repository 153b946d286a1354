-- The calls on properties. A path is a list of segments with a zero byte between them.
use Rattle.std.specs.Prelude.{◌≡◌, ℕ, ◌==◌, ◌||◌, ◌&&◌, not, Bool, true, false, nat_lt, List, ◌∷◌, ◌++◌, length, bytes_eq, codes, Option, None, Some, if◌then◌else◌}
use Rattle.header_maps.specs.Headers.{Headers}
use Rattle.header_maps.specs.Operations.{first_of}
use Rattle.contexts.specs.declared.parts.Own.{Own as OwnParts}
use Rattle.contexts.specs.declared.parts.ExchangeView.{ExchangeView}
use Rattle.contexts.specs.declared.parts.Plugin.{Plugin}
use Rattle.contexts.specs.Properties.{property_of, property_set, property_limit, property_bytes}
use Rattle.contexts.specs.declared.parts.Contexts.{Contexts}
use Rattle.contexts.specs.Reached.{Reach, Seen, no_changes, seen, put}
use Rattle.abi_model.specs.Calls.{Made, Own, answers, changing, reads, only, given}
use Rattle.abi_model.specs.declared.ends.Outcome.{Outcome}
use Rattle.abi_model.specs.declared.ends.Gives.TheVariants.{Bytes}

-- ---- the fixed paths

-- the pseudo-header of a path that a stream context has
abbrev pub pseudo_of : List ℕ → Option (List ℕ)
pseudo_of path =
    if bytes_eq path (codes "request" ++ 0 ∷ codes "path") then Some (codes ":path")
    else (if bytes_eq path (codes "request" ++ 0 ∷ codes "method") then Some (codes ":method")
    else (if bytes_eq path (codes "request" ++ 0 ∷ codes "host") then Some (codes ":authority")
    else (if bytes_eq path (codes "request" ++ 0 ∷ codes "scheme") then Some (codes ":scheme") else None)))

abbrev pub is_some : {A : Type 0} → Option A → Bool
is_some None = false
is_some (Some a) = true

-- a context that has a root, and is another
abbrev pub is_below : ℕ → Option ℕ → Bool
is_below e None = false
is_below e (Some root) = not (root == e)

-- The effective context is that of a stream: its root is another. It may have no exchange any more, and where lines are streams of bytes it never has one.
abbrev pub is_of_stream : Seen → Bool
is_of_stream s = is_below s.common.effective s.reach.root

-- a path that is not set: those of a request are a stream's alone
abbrev pub is_fixed : List ℕ → Seen → Bool
is_fixed path s = bytes_eq path (codes "plugin_name") || (bytes_eq path (codes "plugin_vm_id") || is_of_stream s && is_some (pseudo_of path))

-- ---- reading

abbrev pub first_in : Option Headers → List ℕ → Option (List ℕ)
first_in None name = None
first_in (Some l) name = first_of l name

abbrev pub set_value : List ℕ → Option OwnParts → Option (List ℕ)
set_value path None = None
set_value path (Some o) = property_of path o.properties

-- a pseudo-header's present value, or what was set
abbrev pub stream_value : Option (List ℕ) → List ℕ → Option ExchangeView → Option OwnParts → Option (List ℕ)
stream_value None path v o = set_value path o
stream_value (Some name) path None o = set_value path o
stream_value (Some name) path (Some v) o = first_in v.maps.request name

abbrev pub plugin_name : Option Plugin → Option (List ℕ)
plugin_name None = None
plugin_name (Some p) = Some p.name

abbrev pub vm_name : List ℕ → Option OwnParts → Option (List ℕ)
vm_name name None = None
vm_name name (Some o) = Some name

abbrev pub property_at : List ℕ → Reach → Option (List ℕ)
property_at path r =
    if bytes_eq path (codes "plugin_name") then plugin_name r.plugin
    else (if bytes_eq path (codes "plugin_vm_id") then vm_name r.vm_name r.own
    else stream_value (pseudo_of path) path r.exchange r.own)

abbrev pub value_as : Option (List ℕ) → Outcome
value_as None = only 1
value_as (Some value) = given (Bytes value)

abbrev pub own_get_property : Own
own_get_property args inputs s = reads (value_as (property_at inputs.first s.reach))

-- ---- writing

abbrev pub with_property : (path value : List ℕ) → OwnParts → OwnParts
with_property path value o = record o { properties = property_set path value o.properties }

abbrev pub is_past_limit : (path value : List ℕ) → OwnParts → Bool
is_past_limit path value o =
    nat_lt property_bytes (length path) || (nat_lt property_bytes (length value) || nat_lt property_limit (length (property_set path value o.properties)))

abbrev pub IsPastIn : (path value : List ℕ) → Option OwnParts → Type 0
IsPastIn path value None = ⊥
IsPastIn path value (Some o) = is_past_limit path value o ≡ true

abbrev pub set_in : (path value : List ℕ) → Seen → Option OwnParts → Made
set_in path value s None = answers 2
set_in path value s (Some o) =
    if is_fixed path s then answers 2
    else (if is_past_limit path value o then answers 10 else changing (record no_changes { own = Some (with_property path value o) }))

-- the same of the contexts
abbrev pub put_in : (path value : List ℕ) → Option OwnParts → (vm : ℕ) → Contexts → Contexts
put_in path value None vm h = h
put_in path value (Some o) vm h = put (record no_changes { own = Some (with_property path value o) }) vm h

abbrev pub property_put : (path value : List ℕ) → (vm : ℕ) → Contexts → Contexts
property_put path value vm h = put_in path value (seen h vm).reach.own vm h

abbrev pub own_set_property : Own
own_set_property args inputs s = set_in inputs.first inputs.second s s.reach.own
