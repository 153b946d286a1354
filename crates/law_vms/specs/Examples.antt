-- What two VMs of one worker have and share, worked.
use Rattle.std.specs.Prelude.{◌≡◌, ℕ, false, [], ◌∷◌, None, Some, Bool, true, codes}
use Rattle.contexts.specs.Examples.{request, roots, host, path_seen, set}
use Rattle.contexts.specs.Creating.{open_exchange, new_view, stream_created}
use Rattle.contexts.specs.Reached.{no_changes, seen_of, put_of}
use Rattle.contexts.specs.declared.parts.Contexts.{Contexts}
use Rattle.contexts.specs.declared.parts.Effect.{Effect}
use Rattle.contexts.specs.declared.parts.EffectKind.TheVariants as what
use Rattle.exchange.specs.declared.types.Exchange.{Exchange}
use Rattle.exchange.specs.declared.types.Filter.{Filter}
use Rattle.gate_base.specs.declared.level.Level.TheVariants as levels
use Rattle.gate_io.specs.declared.event.Sent.TheVariants as sent
use Rattle.gate_io.specs.declared.event.Side.TheVariants.{Down}
use Rattle.header_maps.specs.Operations.{no_headers}
use Rattle.store_model.specs.Program.{done, ask}
use Rattle.store_model.specs.declared.call.Call.TheVariants as store
use Rattle.law_vms.specs.OwnChanges.{outlines, line_at, HasNoneAt, ChangesItsOwn}
use Rattle.law_vms.specs.OwnEffects.{IsLine, IsEffectOf, marks_at}
use Rattle.law_vms.specs.OwnLines.{takes_part as is_part}
use Rattle.law_vms.specs.OwnStores.{IsCallOf}
use Rattle.law_vms.specs.SeesItsOwn.{InStep, LookTheSame, ShareNone}

abbrev pub closes : ℕ → Effect
closes id = record { context = id; what = what.Close }

-- a callout of a context, whose request names these
abbrev pub calls : (id vm context : ℕ) → Effect
calls id vm context = record { context = id; what = what.Call (record { vm = vm; context = context; fields = request (codes "/auth"); body = []; trailers = no_headers; timeout_ms = 1 }) }

abbrev pub made_filter : (vm : ℕ) (created : Bool) → Filter
made_filter vm created = record { plugin = 0; vm = vm; fails_open = false; created = created; context = 2 }

-- Two streams of VM 0, of one exchange and of two that look alike. Each context sees the same in both.
abbrev pub together : Contexts
together = stream_created 0 1 7 (stream_created 0 1 7 (open_exchange 7 (request (codes "/a")) roots))

abbrev pub separate : Contexts
separate = stream_created 0 1 8 (stream_created 0 1 7 (open_exchange 8 (request (codes "/a")) (open_exchange 7 (request (codes "/a")) roots)))

-- the first of them has written another path
abbrev pub written_by_first : Contexts → Contexts
written_by_first h = put_of (record no_changes { exchange = Some (new_view (request (codes "/z"))) }) 0 2 h

-- VM 0 has a root and a stream on each of the lines 7 and 8; VM 1 a root and a stream on line 7. In `set` the first stream of VM 0 has set a
-- property.
pub record IsolationExamples : Type 0 where
  -- the id of a context, its plug-in, its root and the place of its exchange
  pub outlined : outlines host 1 ≡ (1, 1, 1, None) ∷ (2, 1, 1, Some 0) ∷ []
  pub first_line : line_at host 0 ≡ Some 7
  pub second_line : line_at host 1 ≡ Some 8
  pub no_line : line_at host 2 ≡ None
  -- of the exchange on line 8 VM 1 has no context, of that on line 7 it has one: so the two VMs share one
  pub none_there : HasNoneAt host 1 1
  pub one_there : HasNoneAt host 1 0 → ⊥
  pub shared : ShareNone host 0 1 → ⊥
  -- the property is a change of VM 0's own, and none of VM 1's
  pub changed : ChangesItsOwn 0 host set
  pub not_another : ChangesItsOwn 1 host set → ⊥
  -- VM 1 does not see it, VM 0 does
  pub unseen : LookTheSame 1 host set
  pub seen : LookTheSame 0 host set → ⊥
  -- a stream's effect is one of its VM; not that of a root, nor under an id that another VM has
  pub of_stream : IsEffectOf host 0 (closes 3)
  pub of_root : IsEffectOf host 0 (closes 1) → ⊥
  pub of_another : IsEffectOf host 1 (closes 3) → ⊥
  -- a callout is one of a root too, where it names that root and its VM
  pub call_of_root : IsEffectOf host 0 (calls 1 0 1)
  pub call_for_another : IsEffectOf host 0 (calls 1 1 1) → ⊥
  pub call_for_a_stream : IsEffectOf host 0 (calls 1 0 2) → ⊥
  pub marks : marks_at host 0 ≡ Some (false, false, false)
  -- a line of the level that is the least, or above it; none below it, and nothing but lines
  pub line : IsLine 2 (sent.Log levels.Info (0x78 ∷ []))
  pub above : IsLine 2 (sent.Log levels.Error [])
  pub below : IsLine 2 (sent.Log levels.Debug []) → ⊥
  pub bytes : IsLine 0 (sent.Bytes 7 Down []) → ⊥
  -- the same call on another store is another step
  pub in_step : InStep {A = ℕ} {B = ℕ} (λ a b. a ≡ b) (ask 0 (store.Get []) (λ r. done 3)) (ask 0 (store.Get []) (λ r. done 3))
  pub out_of_step : InStep {A = ℕ} {B = ℕ} (λ a b. a ≡ b) (ask 0 (store.Get []) (λ r. done 3)) (ask 1 (store.Get []) (λ r. done 3)) → ⊥
  -- a VM asks its own store for values; a queue's id says of which VM it is, and queues are used under each VM there is
  pub own_value : IsCallOf host 0 0 (store.Get [])
  pub another_value : IsCallOf host 0 1 (store.Get []) → ⊥
  pub queue : IsCallOf host 0 1 (store.Dequeue 16777216)
  pub another_queue : IsCallOf host 0 0 (store.Dequeue 16777216) → ⊥
  pub no_such_vm : IsCallOf host 0 2 (store.Resolve []) → ⊥
  -- a root is told of items, not a stream
  pub registered : IsCallOf host 0 0 (store.Register [] 1)
  pub not_by_stream : IsCallOf host 0 0 (store.Register [] 2) → ⊥
  -- a VM takes part in an open exchange once a context of it was created there
  pub takes_part : (x : Exchange) → is_part 1 (Some (record x { has_ended = false; filters = made_filter 1 true ∷ [] })) ≡ true
  pub not_yet : (x : Exchange) → is_part 1 (Some (record x { has_ended = false; filters = made_filter 1 false ∷ [] })) ≡ false
  pub no_more : (x : Exchange) → is_part 1 (Some (record x { has_ended = true; filters = made_filter 1 true ∷ [] })) ≡ false
  pub another_part : (x : Exchange) → is_part 1 (Some (record x { has_ended = false; filters = made_filter 0 true ∷ [] })) ≡ false
  -- What each context sees is not all that a VM tells by: that two contexts are of one exchange neither of them sees, but what the one writes there
  -- the other does. So what looks the same agrees on the places of exchanges too.
  pub looks_alike : (e : ℕ) → seen_of together 0 e ≡ seen_of separate 0 e
  pub not_the_same : LookTheSame 0 together separate → ⊥
  pub told_together : path_seen (written_by_first together) 0 3 ≡ Some (codes "/z")
  pub not_told_apart : path_seen (written_by_first separate) 0 3 ≡ Some (codes "/a")
