-- Why contexts of others that come and go leave a direction as it was.
use Rattle.std.proofs.Common.{◌≡◌, ℕ, Bool, true, false, not, ◌&&◌, ◌||◌, List, [], ◌∷◌, ◌++◌, ap, ◌∙◌, sym, refl, subst}
use Rattle.std.specs.Prelude.{Option, None, Some, slice_get, slice_set, if◌then◌else◌}
use Rattle.contexts.specs.declared.parts.Context.{Context}
use Rattle.contexts.specs.declared.parts.Contexts.{Contexts}
use Rattle.contexts.specs.declared.parts.VmContexts.{VmContexts}
use Rattle.contexts.specs.Creating.{next_id, plugin_in, plugin_at, open_place, root_context, stream_context, with_context, root_created, stream_created, await_done_of, freed_of, has_ended, is_referred, without_id, without_context, delete_id}
use Rattle.contexts.specs.Reached.{vm_in, context_in, exchange_of, exchange_at, contains, seen}
use Rattle.filter_host.specs.Called.{Called}
use Rattle.filter_host.specs.Course.{Course, ends, runs_then, then_do, Met, Reaches}
use Rattle.filter_host.specs.declared.host.CallbackEnd.{CallbackEnd}
use Rattle.filter_host.specs.declared.host.Death.TheVariants as deaths
use Rattle.exchange.specs.declared.types.Exchange.{Exchange}
use Rattle.exchange.specs.declared.types.Filter.{Filter}
use Rattle.exchange.specs.Passing.{chain_of}
use Rattle.store_model.specs.Program.{Program}
use Rattle.worker_model.specs.Room.{Room}
use Rattle.worker_model.specs.declared.types.ContextAt.{ContextAt}
use Rattle.worker_model.specs.declared.types.Line.{Line}
use Rattle.worker_model.specs.declared.types.NewContext.{NewContext}
use Rattle.worker_model.specs.declared.types.Owner.TheVariants as owns
use Rattle.worker_model.specs.Rooms.{place_in, with_contexts, is_dead, lose_vm_in, take_callback_end, value_of_end}
use Rattle.worker_model.specs.Steps.{Both, both, Answered, callback_result, continue_with, called_in, has_vm, with_jobs_first, await_done, delete_context, is_drawn_out, may_root, root_jobs, new_one, create_root, with_filter, change_line, line_at_place, may_stream, with_stream, create_stream, create_filter, filter_at, create_context}
use Rattle.law_flow.specs.Besides.{IsWhole}
use Rattle.law_chain.specs.Acts.{NotOf}
use Rattle.law_flow.specs.Contexts.{ContextsLeave, CallsAreRuns}
use Rattle.law_flow.specs.Elsewhere.{IsBeside, behind_effects}
use Rattle.law_flow.specs.Rooms.{IsOn, Leaves, leaves, Meanwhile, nothing, other}
use Rattle.law_flow.proofs.Besides.{stays}
use Rattle.law_flow.proofs.Elsewhere.{run_then, Beside, beside}
use Rattle.law_chain.proofs.Holding.{hold_set, there_set, keeps_same, keeps_more, keeps_less, KeepsFound}
use Rattle.law_flow.proofs.Moving.{then_runs, Ran, ran}
use Rattle.law_flow.proofs.Readings.{Gentle, soft_exchange, lines_gentle}

by_bool : {A : Type 0} (P : A → Type 0) (b : Bool) (a c : A) → (b ≡ true → P a) → (b ≡ false → P c) → P (if b then a else c)
by_bool P true a c here there = here refl
by_bool P false a c here there = there refl

-- the contexts of one VM are others, and the lines are the same
with_vm : (response : Bool) (n : ℕ) (x : Exchange) (room after : Room) (vm : ℕ) (v : VmContexts) → IsOn n room x → IsWhole response x room → after.lines ≡ room.lines
    → after.hub.contexts.vms ≡ slice_set room.hub.contexts.vms vm v → KeepsFound room.hub.contexts vm v (chain_of response x) → Leaves response n x room x after
with_vm response n x room after vm v on whole is vms keeps = record {
  on = record {
    place = on.place;
    line = on.line;
    stands = ap (place_in n) is ∙ on.stands;
    at = ap (λ (lines : List Line). slice_get lines on.place) is ∙ on.at;
    number = on.number;
    exchange = on.exchange;
  };
  chain = refl;
  holds = hold_set room.hub.contexts after.hub.contexts vm v (chain_of response x) vms whole keeps;
  there = there_set room.hub.contexts after.hub.contexts vm v (chain_of response x) vms whole keeps;
}

waits_leave : (c : ContextAt) (response : Bool) (n : ℕ) (x : Exchange) (room : Room) → IsOn n room x → IsWhole response x room → Leaves response n x room x (await_done c room)
waits_leave c response n x room on whole =
    let h : Contexts = room.hub.contexts in
    let v : VmContexts = record (vm_in h c.vm) { waiting = (vm_in h c.vm).waiting ++ c.context ∷ [] } in
    by_bool (Leaves response n x room x) (has_vm c.vm h) (with_contexts (await_done_of c.vm c.context h) (record room { waits = room.waits ++ c ∷ [] })) room
    (λ e.
    with_vm response n x room (with_contexts (await_done_of c.vm c.context h) (record room { waits = room.waits ++ c ∷ [] })) c.vm v on whole refl refl
    (keeps_same h c.vm v (chain_of response x) refl))
    (λ e. stays response n x room on whole)

freed_vms : (o : Option ℕ) (h : Contexts) → (freed_of o h).vms ≡ h.vms
freed_vms None h = refl
freed_vms (Some p) h = by_bool (λ (k : Contexts). k.vms ≡ h.vms) (has_ended (exchange_at h.exchanges p) && not (is_referred p h.vms)) _ h (λ e. refl) (λ e. refl)

deletes_leave : (c : ContextAt) (value : Option (Option ℕ)) (response : Bool) (n : ℕ) (x : Exchange) (room : Room) → IsOn n room x → IsWhole response x room
    → NotOf c.vm c.context (chain_of response x) → Leaves response n x room x (delete_context c value room)
deletes_leave c value response n x room on whole not_of =
    let h : Contexts = room.hub.contexts in
    let v : VmContexts = without_id c.context (vm_in h c.vm) in
    by_bool (Leaves response n x room x) (has_vm c.vm h && contains c.context (seen h c.vm).common.ids) (with_contexts (delete_id c.vm c.context h) room) room
    (λ e.
    with_vm response n x room (with_contexts (delete_id c.vm c.context h) room) c.vm v on whole refl (freed_vms (exchange_of (context_in h c.vm c.context)) (without_context c.vm c.context h))
    (keeps_less h c.vm c.context v (chain_of response x) refl not_of))
    (λ e. stays response n x room on whole)

roots_leave : (vm plugin : ℕ) (first : Bool) (response : Bool) (n : ℕ) (x : Exchange) (room : Room) → IsOn n room x → IsWhole response x room → is_drawn_out vm room.hub.contexts ≡ false
    → Leaves response n x room x (create_root vm plugin first room).1
roots_leave vm plugin first response n x room on whole left_ =
    let h : Contexts = room.hub.contexts in
    let c : Context = root_context (next_id h vm) plugin in
    let after : Room = with_jobs_first (root_jobs vm (next_id h vm) plugin first) (with_contexts (root_created vm plugin h) room) in
    by_bool (λ (r : Option NewContext × Room). Leaves response n x room x r.1) (is_dead vm room || not (may_root vm plugin h)) (None, room)
    (if is_drawn_out vm h then (None, lose_vm_in vm deaths.Ids room) else (Some (new_one vm (next_id h vm) 0), after))
    (λ e. stays response n x room on whole)
    (λ e.
    by_bool (λ (r : Option NewContext × Room). Leaves response n x room x r.1) (is_drawn_out vm h) (None, lose_vm_in vm deaths.Ids room) (Some (new_one vm (next_id h vm) 0), after)
    (λ d. absurd (cc (d, left_)))
    (λ d. with_vm response n x room after vm (with_context c (vm_in h vm)) on whole refl refl (keeps_more h vm (with_context c (vm_in h vm)) c (chain_of response x) refl)))

-- ---- streams

stream_leaves : (number k : ℕ) (f : Filter) (root : ℕ) (response : Bool) (n : ℕ) (x : Exchange) (room : Room) → IsOn n room x → IsWhole response x room
    → (y : Exchange) × Leaves response n x room y (with_stream number k f root room).1
stream_leaves number k f root response n x room on whole =
    let h : Contexts = room.hub.contexts in
    let c : Context = stream_context (next_id h f.vm) (plugin_at (context_in h f.vm root)) root (open_place number h.exchanges) in
    let v : VmContexts = with_context c (vm_in h f.vm) in
    let change : Exchange → Exchange = with_filter k (record f { created = true; context = next_id h f.vm }) in
    let g : Gentle n x room on.place (record room { lines = line_at_place (change_line change) room.lines (place_in number room.lines) })
    = lines_gentle (change_line change) (soft_exchange change (λ y. refl) (λ y. refl)) n x room on (place_in number room.lines) in
    let after : Contexts = stream_created f.vm root number h in
    let keeps : KeepsFound h f.vm v (chain_of response x) = keeps_more h f.vm v c (chain_of response x) refl in (
      g.then_is,
      record {
        on = record { place = g.on.place; line = g.on.line; stands = g.on.stands; at = g.on.at; number = g.on.number; exchange = g.on.exchange };
        chain = by_direction response g.then_is g.request g.response;
        holds = hold_set h after f.vm v (chain_of response x) refl whole keeps;
        there = there_set h after f.vm v (chain_of response x) refl whole keeps;
      },
    )
  where
    by_direction : (r : Bool) (y : Exchange) → y.request ≡ x.request → y.response ≡ x.response → chain_of r y ≡ chain_of r x
    by_direction false y one two = one
    by_direction true y one two = two

streams_leave : (number k : ℕ) (f : Filter) (root : Option ℕ) (response : Bool) (n : ℕ) (x : Exchange) (room : Room) → IsOn n room x → IsWhole response x room
    → is_drawn_out f.vm room.hub.contexts ≡ false → (y : Exchange) × Leaves response n x room y (create_stream number k f root room).1
streams_leave number k f None response n x room on whole left_ = (x, stays response n x room on whole)
streams_leave number k f (Some root) response n x room on whole left_ =
    by_bool (λ (r : Option NewContext × Room). (y : Exchange) × Leaves response n x room y r.1) (is_dead f.vm room || not (may_stream f.vm root room.hub.contexts)) (None, room)
    (if is_drawn_out f.vm room.hub.contexts then (None, lose_vm_in f.vm deaths.Ids room) else with_stream number k f root room)
    (λ e. (x, stays response n x room on whole))
    (λ e.
    by_bool (λ (r : Option NewContext × Room). (y : Exchange) × Leaves response n x room y r.1) (is_drawn_out f.vm room.hub.contexts) (None, lose_vm_in f.vm deaths.Ids room)
    (with_stream number k f root room) (λ d. absurd (cc (d, left_))) (λ d. stream_leaves number k f root response n x room on whole))

creates_leave : (number k : ℕ) (response : Bool) (n : ℕ) (x : Exchange) (room : Room) → IsOn n room x → IsWhole response x room
    → ((f : Filter) → filter_at number k room.lines ≡ Some f → is_drawn_out f.vm room.hub.contexts ≡ false) → (y : Exchange) × Leaves response n x room y (create_context number k room).1
creates_leave number k response n x room on whole left_ = by_filter (filter_at number k room.lines) refl
  where
    by_filter : (o : Option Filter) → filter_at number k room.lines ≡ o → (y : Exchange) × Leaves response n x room y (create_filter number k o room).1
    by_filter None is = (x, stays response n x room on whole)
    by_filter (Some f) is = streams_leave number k f (plugin_in room.hub.contexts f.plugin).root response n x room on whole (left_ f is)

pub contexts_leave : ContextsLeave
contexts_leave = record {
  waiting = waits_leave;
  deleting = deletes_leave;
  making_root = roots_leave;
  making_stream = creates_leave;
}

-- ---- any callback of no stage

pub calls_are : (H : Type 0) → CallsAreRuns H
calls_are H calling response n count vm name context first second behind x room on host ms b none callbacks reaches =
    by_bool (λ (k : Course (Answered H)). Reaches (then_do k (λ a. ends (continue_with behind a))) ms (ends b) → (y : Exchange) × Meanwhile response n count x room y b.room) (is_dead vm room)
    (ends (callback_result None (both host room))) (called_in calling vm name context first second owns.Nobody host room) (λ e r. dead ms r) (λ e r. live r) reaches
  where
    dead : (ns : List Met) → Reaches (ends (both host (behind None room))) ns (ends b) → (y : Exchange) × Meanwhile response n count x room y b.room
    dead [] is =
        let is_b : b ≡ both host (behind None room) = sym (cc) in
        subst (λ (d : Both H). (y : Exchange) × Meanwhile response n count x room y d.room) (sym is_b)
        (none.0, other (leaves none.1) (nothing none.0 (behind None room)))
    dead (m ∷ ns) is = absurd is

    live : Reaches (then_do (called_in calling vm name context first second owns.Nobody host room) (λ a. ends (continue_with behind a))) ms (ends b)
        → (y : Exchange) × Meanwhile response n count x room y b.room
    live r =
        let q : Program (Called H) = calling host vm name context first second room.hub.moment room.hub.contexts in
        let f : Called H → Answered H = λ c. callback_result (value_of_end c.end) (both c.host (take_callback_end vm owns.Nobody c.end c.lines c.contexts room)) in
        let h : Called H → Both H = λ c. both c.host (behind (value_of_end c.end) (take_callback_end vm owns.Nobody c.end c.lines c.contexts room)) in
        let here : Reaches (runs_then q (λ c. ends (h c))) ms (ends b)
        = subst (λ (k : Course (Both H)). Reaches k ms (ends b)) (then_runs q (λ c. ends (f c)) (λ a. ends (continue_with behind a))) r in
        let end : Ran q h ms b = ran q h ms b here in
        let c : Called H = end.end in
        let both_ : (e : IsBeside response n count vm owns.Nobody c x room)
        × ((z : Exchange) → IsOn n (behind_effects vm owns.Nobody c room) z
        → (y : Exchange) × Leaves response n z (behind_effects vm owns.Nobody c room) y (behind (Some e.value) (behind_effects vm owns.Nobody c room)))
        = callbacks c end.reached in
        let e : IsBeside response n count vm owns.Nobody c x room = both_.0 in
        let mid : Beside H response n count x room (behind_effects vm owns.Nobody c room) = beside response n count vm owns.Nobody c x room on e in
        let last : Room = behind (Some e.value) (behind_effects vm owns.Nobody c room) in
        let l : (y : Exchange) × Leaves response n mid.then_is (behind_effects vm owns.Nobody c room) y last = both_.1 mid.then_is mid.on in
        let is_b : b ≡ both c.host last = end.is ∙ ap (λ (t : CallbackEnd). both c.host (behind (value_of_end t) (take_callback_end vm owns.Nobody t c.lines c.contexts room))) e.returned in
        subst (λ (d : Both H). (y : Exchange) × Meanwhile response n count x room y d.room) (sym is_b)
        (l.0, run_then mid.run (other (leaves l.1) (nothing l.0 last)))
