-- Contexts that are made, and that are taken away.
use Rattle.std.specs.Prelude.{◌≡◌, ℕ, ◌+◌, ◌==◌, ◌&&◌, Bool, true, false, not, List, [], ◌∷◌, ◌++◌, Option, None, Some, is_none, slice_set, slice_index_or, if◌then◌else◌}
use Rattle.std.specs.List.{list_any, position}
use Rattle.std.specs.Option.{option_map}
use Rattle.header_maps.specs.Headers.{Headers}
use Rattle.contexts.specs.Keyed.{without_first}
use Rattle.contexts.specs.declared.parts.StageBuffer.{StageBuffer}
use Rattle.contexts.specs.declared.parts.Own.{Own}
use Rattle.contexts.specs.declared.parts.Context.{Context}
use Rattle.contexts.specs.declared.parts.Maps.{Maps}
use Rattle.contexts.specs.declared.parts.ExchangeView.{ExchangeView}
use Rattle.contexts.specs.declared.parts.ExchangeEntry.{ExchangeEntry}
use Rattle.contexts.specs.declared.parts.Plugin.{Plugin}
use Rattle.contexts.specs.declared.parts.VmContexts.{VmContexts}
use Rattle.contexts.specs.declared.parts.Contexts.{Contexts}
use Rattle.contexts.specs.Reached.{no_changes, vm_in, context_in, context_no, exchange_at, exchange_of, put_of}

-- ---- ids

-- no id is left: the greatest was drawn
abbrev pub IsDrawnOut : Contexts → ℕ → Type 0
IsDrawnOut h vm = (vm_in h vm).last ≡ 4294967295

abbrev pub next_id : Contexts → ℕ → ℕ
next_id h vm = (vm_in h vm).last + 1

-- ---- what is new

abbrev pub no_stage : StageBuffer
no_stage = record { held = []; is_asked = false; has_end = false }

abbrev pub no_own : Own
no_own = record { request = no_stage; response = no_stage; properties = []; answer = None }

abbrev pub root_context : (id plugin : ℕ) → Context
root_context id plugin = record { id = id; plugin = plugin; root = id; exchange = None; own = no_own; tick = None }

abbrev pub stream_context : (id plugin root : ℕ) → Option ℕ → Context
stream_context id plugin root place = record { id = id; plugin = plugin; root = root; exchange = place; own = no_own; tick = None }

abbrev pub with_context : Context → VmContexts → VmContexts
with_context c v = record v { last = c.id; contexts = v.contexts ++ c ∷ [] }

-- ---- roots

abbrev pub no_plugin : Plugin
no_plugin = record { name = []; configuration = []; vm = 0; root = None }

abbrev pub plugin_in : Contexts → ℕ → Plugin
plugin_in h plugin = slice_index_or h.plugins plugin no_plugin

abbrev pub with_root : ℕ → Plugin → Plugin
with_root id p = record p { root = Some id }

-- CREATE A ROOT of a plug-in
abbrev pub root_created : (vm plugin : ℕ) → Contexts → Contexts
root_created vm plugin h = record h {
  plugins = slice_set h.plugins plugin (with_root (next_id h vm) (plugin_in h plugin));
  vms = slice_set h.vms vm (with_context (root_context (next_id h vm) plugin) (vm_in h vm));
}

-- ---- streams

abbrev pub is_root_at : ℕ → Option Context → Bool
is_root_at id None = false
is_root_at id (Some c) = (c.root == id) && is_none c.exchange

-- that context is a root
abbrev pub is_root : Contexts → (vm id : ℕ) → Bool
is_root h vm id = is_root_at id (context_in h vm id)

abbrev pub plugin_at : Option Context → ℕ
plugin_at None = 0
plugin_at (Some c) = c.plugin

abbrev pub is_open_on : ℕ → Option ExchangeEntry → Bool
is_open_on line None = false
is_open_on line (Some x) = (x.line == line) && not x.view.has_ended

-- where the exchange stands that is open on a line
abbrev pub open_place : ℕ → List (Option ExchangeEntry) → Option ℕ
open_place line xs = position (is_open_on line) xs

-- CREATE A STREAM of a root, in the exchange that is open on the line
abbrev pub stream_created : (vm root line : ℕ) → Contexts → Contexts
stream_created vm root line h = record h {
  vms = slice_set h.vms vm (with_context (stream_context (next_id h vm) (plugin_at (context_in h vm root)) root (open_place line h.exchanges)) (vm_in h vm));
}

-- ---- exchanges

abbrev pub no_maps : Headers → Maps
no_maps request = record { request = Some request; request_trailers = None; response = None; response_trailers = None }

abbrev pub new_view : Headers → ExchangeView
new_view request = record { maps = no_maps request; is_answering = false; is_answered = false; has_ended = false; is_head_out = false }

abbrev pub new_exchange : ℕ → Headers → ExchangeEntry
new_exchange line request = record { line = line; view = new_view request }

abbrev pub placed_at : ExchangeEntry → Option ℕ → List (Option ExchangeEntry) → List (Option ExchangeEntry)
placed_at x (Some n) xs = slice_set xs n (Some x)
placed_at x None xs = xs ++ Some x ∷ []

abbrev pub place_or : ℕ → Option ℕ → ℕ
place_or n None = n
place_or n (Some m) = m

-- OPEN an exchange on a line, at the first free place
abbrev pub open_exchange : ℕ → Headers → Contexts → Contexts
open_exchange line request h = record h { exchanges = placed_at (new_exchange line request) (position is_none h.exchanges) h.exchanges }

abbrev pub refers_to : ℕ → Option ℕ → Bool
refers_to n None = false
refers_to n (Some m) = m == n

-- some context is of the exchange at a place
abbrev pub is_referred : ℕ → List VmContexts → Bool
is_referred n vms = list_any (λ (v : VmContexts). list_any (λ (c : Context). refers_to n c.exchange) v.contexts) vms

abbrev pub has_ended : Option ExchangeEntry → Bool
has_ended None = false
has_ended (Some x) = x.view.has_ended

-- a place is free again once its exchange has ended and no context is of it
abbrev pub freed : ℕ → Contexts → Contexts
freed n h = if (has_ended (exchange_at h.exchanges n) && not (is_referred n h.vms)) then record h { exchanges = slice_set h.exchanges n None } else h

abbrev pub freed_of : Option ℕ → Contexts → Contexts
freed_of None h = h
freed_of (Some n) h = freed n h

abbrev pub ended_one : ExchangeEntry → ExchangeEntry
ended_one x = record x { view = record x.view { has_ended = true } }

-- END the exchange at a place
abbrev pub end_exchange : ℕ → Contexts → Contexts
end_exchange n h = freed n (record h { exchanges = slice_set h.exchanges n (option_map ended_one (exchange_at h.exchanges n)) })

-- ---- the end of contexts

abbrev pub itself : ℕ → ℕ
itself n = n

-- WAIT for proxy_done
abbrev pub await_done_of : (vm id : ℕ) → Contexts → Contexts
await_done_of vm id h = record h { vms = slice_set h.vms vm (record (vm_in h vm) { waiting = (vm_in h vm).waiting ++ id ∷ [] }) }

-- DONE: the context waits no longer
abbrev pub done_with : (vm id : ℕ) → Contexts → Contexts
done_with vm id h = put_of (record no_changes { waiting = Some (without_first itself id (vm_in h vm).waiting) }) vm id h

abbrev pub without_id : ℕ → VmContexts → VmContexts
without_id id v = record v { waiting = without_first itself id v.waiting; contexts = without_first context_no id v.contexts }

abbrev pub without_context : (vm id : ℕ) → Contexts → Contexts
without_context vm id h = record h { vms = slice_set h.vms vm (without_id id (vm_in h vm)) }

-- DELETE a context
abbrev pub delete_id : (vm id : ℕ) → Contexts → Contexts
delete_id vm id h = freed_of (exchange_of (context_in h vm id)) (without_context vm id h)

-- a context put after those of a VM, under the id that was drawn for it
abbrev pub with_new : ℕ → Context → Contexts → Contexts
with_new vm c h = record h { vms = slice_set h.vms vm (with_context c (vm_in h vm)) }
