-- The laws of contexts that are made and taken away: the one that is named changes, and nothing else.
use Rattle.std.specs.Prelude.{◌≡◌, ◌<◌, ◌≤◌, ℕ, Bool, true, false, List, [], ◌∷◌, length, map, Option, None, Some}
use Rattle.std.specs.Option.{option_map}
use Rattle.header_maps.specs.Headers.{Headers}
use Rattle.contexts.specs.declared.parts.Context.{Context}
use Rattle.contexts.specs.declared.parts.ExchangeView.{ExchangeView}
use Rattle.contexts.specs.declared.parts.ExchangeEntry.{ExchangeEntry}
use Rattle.contexts.specs.declared.parts.VmContexts.{VmContexts}
use Rattle.contexts.specs.declared.parts.Contexts.{Contexts}
use Rattle.contexts.specs.Keyed.{first_of_number}
use Rattle.contexts.specs.Reached.{Changes, vm_in, context_in, context_no, exchange_at, view_at, view_in, put_of, contains}
use Rattle.contexts.specs.Creating.{next_id, root_context, stream_context, root_created, stream_created, plugin_at, open_place, delete_id, end_exchange}

-- ---- ids: each was drawn, and no two contexts have one
abbrev pub AreDrawn : ℕ → List Context → Type 0
AreDrawn last [] = Unit {0}
AreDrawn last (c ∷ cs) = (c.id ≤ last) × (first_of_number context_no c.id cs ≡ None) × AreDrawn last cs

abbrev pub IdsAreDrawn : Contexts → ℕ → Type 0
IdsAreDrawn h vm = AreDrawn (vm_in h vm).last (vm_in h vm).contexts

-- another context: of another VM, or of another id
abbrev pub IsOtherContext : (vm e wm d : ℕ) → Type 0
IsOtherContext vm e wm d = wm ≡ vm → d ≡ e → ⊥

-- A NEW CONTEXT is there under the next id, every other is as it was, and the ids stay drawn
pub record CreatesOne : Type 0 where
  pub root : (vm plugin : ℕ) (h : Contexts) → vm < length h.vms → IdsAreDrawn h vm → context_in (root_created vm plugin h) vm (next_id h vm) ≡ Some (root_context (next_id h vm) plugin)
  pub root_others : (vm plugin : ℕ) (h : Contexts) (wm d : ℕ) → vm < length h.vms → IsOtherContext vm (next_id h vm) wm d → context_in (root_created vm plugin h) wm d ≡ context_in h wm d
  pub root_ids : (vm plugin : ℕ) (h : Contexts) (wm : ℕ) → vm < length h.vms → IdsAreDrawn h wm → IdsAreDrawn (root_created vm plugin h) wm
  pub stream : (vm root line : ℕ) (h : Contexts) → vm < length h.vms → IdsAreDrawn h vm →
      context_in (stream_created vm root line h) vm (next_id h vm) ≡ Some (stream_context (next_id h vm) (plugin_at (context_in h vm root)) root (open_place line h.exchanges))
  pub stream_others : (vm root line : ℕ) (h : Contexts) (wm d : ℕ) → vm < length h.vms → IsOtherContext vm (next_id h vm) wm d → context_in (stream_created vm root line h) wm d ≡ context_in h wm d
  pub stream_ids : (vm root line : ℕ) (h : Contexts) (wm : ℕ) → vm < length h.vms → IdsAreDrawn h wm → IdsAreDrawn (stream_created vm root line h) wm

-- A DELETED CONTEXT is gone, every other is as it was, with all that its exchange has, and the ids stay drawn
pub record DeletesOne : Type 0 where
  pub gone : (vm id : ℕ) (h : Contexts) → vm < length h.vms → IdsAreDrawn h vm → context_in (delete_id vm id h) vm id ≡ None
  pub others : (vm id : ℕ) (h : Contexts) (wm d : ℕ) → vm < length h.vms → IsOtherContext vm id wm d → context_in (delete_id vm id h) wm d ≡ context_in h wm d
  pub exchanges : (vm id : ℕ) (h : Contexts) (wm d : ℕ) (c : Context) → vm < length h.vms → IsOtherContext vm id wm d → wm < length h.vms → context_in h wm d ≡ Some c →
      view_in (delete_id vm id h).exchanges c.exchange ≡ view_in h.exchanges c.exchange
  pub ids : (vm id : ℕ) (h : Contexts) (wm : ℕ) → vm < length h.vms → IdsAreDrawn h wm → IdsAreDrawn (delete_id vm id h) wm

-- AN EXCHANGE THAT ENDS keeps its maps for its contexts, which see that it has ended; no other exchange changes
abbrev pub ended_view : ExchangeView → ExchangeView
ended_view v = record v { has_ended = true }

pub record EndsOne : Type 0 where
  pub maps : (n : ℕ) (h : Contexts) (wm d : ℕ) (c : Context) → wm < length h.vms → context_in h wm d ≡ Some c → c.exchange ≡ Some n → view_at (end_exchange n h).exchanges n ≡ option_map ended_view (view_at h.exchanges n)
  pub others : (n : ℕ) (h : Contexts) (m : ℕ) → (m ≡ n → ⊥) → exchange_at (end_exchange n h).exchanges m ≡ exchange_at h.exchanges m
  pub contexts : (n : ℕ) (h : Contexts) → (end_exchange n h).vms ≡ h.vms
