-- Why jobs leave a direction as it was.
use Rattle.std.proofs.Common.{◌≡◌, ◌<◌, ℕ, Bool, true, false, not, ◌&&◌, List, [], ◌∷◌, length, ap, ◌∙◌, sym, refl, subst}
use Rattle.std.specs.Prelude.{Option, None, Some, slice_get, slice_set, if◌then◌else◌}
use borrow.Author.Tests.{ltb-true}
use Rattle.contexts.specs.declared.parts.Contexts.{Contexts}
use Rattle.contexts.specs.declared.parts.Tick.{Tick}
use Rattle.contexts.specs.Creating.{end_exchange, has_ended, is_referred}
use Rattle.contexts.specs.Reached.{Changes as ContextChanges, no_changes, vm_in, tick_in, exchange_at, effective_of, put}
use Rattle.filter_host.specs.Called.{Called}
use Rattle.filter_host.specs.Course.{Course, ends, runs_then, then_do, Met, Reaches}
use Rattle.filter_host.specs.declared.host.CallbackEnd.{CallbackEnd}
use Rattle.exchange.specs.declared.types.Exchange.{Exchange}
use Rattle.exchange.specs.Answering.{none_held}
use Rattle.exchange.specs.Passing.{chain_of}
use Rattle.filter_chain.specs.declared.stage.Stage.{Stage}
use Rattle.store_model.specs.Program.{Program}
use Rattle.store_model.specs.declared.call.Reply.{Reply}
use Rattle.store_model.specs.declared.call.Reply.TheVariants as replies
use Rattle.worker_model.specs.Room.{Room}
use Rattle.worker_model.specs.declared.types.Line.{Line}
use Rattle.worker_model.specs.declared.types.Owner.TheVariants as owns
use Rattle.worker_model.specs.Moves.{ended_in, ended_back, ended_at}
use Rattle.worker_model.specs.Rooms.{with_contexts, is_dead, take_callback_end, value_of_end}
use Rattle.worker_model.specs.Steps.{Both, both, Answered, callback_result, continue_with, nothing_more, called_in, take_notice_reply, end_with, end_at, is_due_tick, next_tick, has_vm, with_tick, tick_of}
use Rattle.worker_model.specs.Turn.{without_sent, room_for_event}
use Rattle.law_flow.specs.Besides.{OthersAreAlien, IsWhole}
use Rattle.law_flow.specs.Elsewhere.{IsBeside, behind_effects}
use Rattle.law_flow.specs.Jobs.{EndsDrop, JobsLeave, TellsAreRuns}
use Rattle.law_flow.specs.Rooms.{IsOn, Leaves, Meanwhile, nothing}
use Rattle.law_chain.specs.Acts.{HoldSame}
use Rattle.law_body.specs.Deaths.{HoldNothing, AreDropped}
use Rattle.law_body.proofs.Deaths.{dropping_drops}
use Rattle.law_body.proofs.Apart.{Holds, next, by_vms, drops}
use Rattle.law_flow.proofs.Besides.{stays, alike, on_other}
use Rattle.law_flow.proofs.Elsewhere.{Beside, beside}
use Rattle.law_chain.proofs.Holding.{hold_all, hold_then, hold_by_vms, hold_kept, there_kept, kept_many}
use Rattle.law_flow.proofs.Moving.{then_runs, Ran, ran}

by_bool : {A : Type 0} (P : A → Type 0) (b : Bool) (a c : A) → (b ≡ true → P a) → (b ≡ false → P c) → P (if b then a else c)
by_bool P true a c here there = here refl
by_bool P false a c here there = there refl

-- ---- notices

notice_leaves : (vm left : ℕ) (reply : Reply) (response : Bool) (n : ℕ) (x : Exchange) (room : Room) → IsOn n room x → IsWhole response x room → Leaves response n x room x (take_notice_reply vm left reply room)
notice_leaves vm left (replies.Owed root queue) response n x room on whole = alike response n x room (take_notice_reply vm left (replies.Owed root queue) room) on whole refl refl
notice_leaves vm left replies.Absent response n x room on whole = stays response n x room on whole
notice_leaves vm left (replies.Value value number) response n x room on whole = stays response n x room on whole
notice_leaves vm left (replies.Done number) response n x room on whole = stays response n x room on whole
notice_leaves vm left replies.CasMismatch response n x room on whole = stays response n x room on whole
notice_leaves vm left replies.Full response n x room on whole = stays response n x room on whole
notice_leaves vm left (replies.Id queue) response n x room on whole = stays response n x room on whole
notice_leaves vm left (replies.Item item) response n x room on whole = stays response n x room on whole
notice_leaves vm left replies.Empty response n x room on whole = stays response n x room on whole
notice_leaves vm left replies.NoneOwed response n x room on whole = stays response n x room on whole

-- ---- ticks

first_true : (a b : Bool) → (a && b) ≡ true → b ≡ true
first_true true b is = is
first_true false b is = absurd (cc)

tick_leaves : (vm root : ℕ) (response : Bool) (n : ℕ) (x : Exchange) (room : Room) → IsOn n room x → IsWhole response x room → (o : Option (Option Tick))
    → Leaves response n x room x (tick_of vm root o room).1
tick_leaves vm root response n x room on whole None = stays response n x room on whole
tick_leaves vm root response n x room on whole (Some None) = stays response n x room on whole
tick_leaves vm root response n x room on whole (Some (Some t)) =
    by_bool (λ (r : Bool × Room). Leaves response n x room x r.1) (is_due_tick room.hub.moment t && has_vm vm room.hub.contexts)
    (true, with_contexts (with_tick vm root (next_tick room.hub.moment t) room.hub.contexts) room) (false, room)
    (λ e.
    let ss : List Stage = chain_of response x in
    let h : Contexts = room.hub.contexts in
    let one : ContextChanges = record no_changes { effective = Some root } in
    let two : ContextChanges = record no_changes { tick = Some (Some (next_tick room.hub.moment t)) } in
    let mid : Contexts = put one vm h in
    let within : vm < length h.vms = ltb-true vm (length h.vms) (first_true (is_due_tick room.hub.moment t) (has_vm vm h) e) in
    let within_mid : vm < length mid.vms = subst (λ (m : ℕ). vm < m) (sym (kept_many one h vm (effective_of h vm))) within in
    record {
      on = record { place = on.place; line = on.line; stands = on.stands; at = on.at; number = on.number; exchange = on.exchange };
      chain = refl;
      holds = hold_then h mid (put two vm mid) ss (hold_kept one h vm (effective_of h vm) ss refl within) (hold_kept two mid vm (effective_of mid vm) ss refl within_mid);
      there = there_kept two mid vm (effective_of mid vm) ss refl within_mid (there_kept one h vm (effective_of h vm) ss refl within whole);
    })
    (λ e. stays response n x room on whole)

-- ---- the end of another line's exchange

ended_vms : (place : ℕ) (h : Contexts) → (end_exchange place h).vms ≡ h.vms
ended_vms place h =
    by_bool (λ (k : Contexts). k.vms ≡ h.vms) (has_ended (exchange_at (slice_set h.exchanges place _) place) && not (is_referred place h.vms)) _ _ (λ e. refl) (λ e. refl)

ending_leaves : (place : ℕ) (response : Bool) (n : ℕ) (x : Exchange) (room : Room) (on : IsOn n room x) → OthersAreAlien (chain_of response x) on.place room
    → IsWhole response x room → (place ≡ on.place → ⊥) → Leaves response n x room x (end_at place room)
ending_leaves place response n x room on alien whole apart = by_line (slice_get room.lines place) refl
  where
    by_exchange : (line : Line) → slice_get room.lines place ≡ Some line → (e : Option Exchange) → line.exchange ≡ e → Leaves response n x room x (end_with room (ended_back place room.lines (ended_in line e)))
    by_exchange line at None some = record {
      on = on_other n room x on place line line room.hub at refl apart;
      chain = refl;
      holds = hold_all room.hub.contexts (chain_of response x);
      there = whole;
    }
    by_exchange line at (Some y) some =
        let after : Room = end_with room (ended_back place room.lines (ended_in line (Some y))) in
        let there_on : IsOn n (record room { lines = slice_set room.lines place (record line { exchange = None }); hub = room.hub }) x
        = on_other n room x on place line (record line { exchange = None }) room.hub at refl apart in
        let mid : Contexts = (none_held y room.hub).contexts in
        let held : Holds (chain_of response x) room.hub.contexts after.hub.contexts
        = next (chain_of response x) room.hub.contexts mid after.hub.contexts (drops (chain_of response x) y room.hub (alien place line y at some apart))
        (by_vms (chain_of response x) mid after.hub.contexts (ended_vms y.place mid)) in
        record {
          on = record {
            place = there_on.place;
            line = there_on.line;
            stands = there_on.stands;
            at = there_on.at;
            number = there_on.number;
            exchange = there_on.exchange;
          };
          chain = refl;
          holds = held.holds;
          there = held.there whole;
        }

    by_line : (l : Option Line) → slice_get room.lines place ≡ l → Leaves response n x room x (end_with room (ended_at place l room.lines))
    by_line None at = alike response n x room (end_with room (None, room.lines)) on whole refl refl
    by_line (Some line) at = by_exchange line at line.exchange refl

-- ---- the exchange's own end

nothing_by : (b c : Contexts) (ss : List Stage) → HoldSame b c ss → HoldNothing b ss → HoldNothing c ss
nothing_by b c [] same none = tt
nothing_by b c (s ∷ ss) same none = (same.0 ∙ none.0, nothing_by b c ss same.1 none.1)

pub ends_drop : EndsDrop
ends_drop n x room on request response =
    let mid : Contexts = (none_held x room.hub).contexts in
    let after : Room = end_at on.place room in
    let is : after.hub.contexts ≡ end_exchange x.place mid
    = ap (λ (l : Option Line). (end_with room (ended_at on.place l room.lines)).hub.contexts) on.at
    ∙ ap (λ (e : Option Exchange). (end_with room (ended_back on.place room.lines (ended_in on.line e))).hub.contexts) on.exchange in
    let vms : after.hub.contexts.vms ≡ mid.vms = ap (λ (c : Contexts). c.vms) is ∙ ended_vms x.place mid in
    let dropped : AreDropped x mid = dropping_drops x room.hub request response in
    record {
      requests = nothing_by mid after.hub.contexts x.request (hold_by_vms mid after.hub.contexts x.request vms) dropped.requests;
      responses = nothing_by mid after.hub.contexts x.response (hold_by_vms mid after.hub.contexts x.response vms) dropped.responses;
    }

pub jobs_leave : JobsLeave
jobs_leave = record {
  facing_next = λ plan event response n x room on whole. alike response n x room (room_for_event plan event (without_sent room)) on whole refl refl;
  in_hand = λ later response n x room on whole. alike response n x room (record room { jobs = later }) on whole refl refl;
  noticing = notice_leaves;
  ticking = λ vm root response n x room on whole. tick_leaves vm root response n x room on whole (tick_in (vm_in room.hub.contexts vm).contexts root);
  ending = ending_leaves;
}

-- ---- callbacks whose answers say nothing

pub tells_are : (H : Type 0) → TellsAreRuns H
tells_are H calling response n count vm name context first x room on host ms b callbacks reaches =
    by_bool (λ (k : Course (Answered H)). Reaches (then_do k (λ a. ends (continue_with nothing_more a))) ms (ends b) → (y : Exchange) × Meanwhile response n count x room y b.room) (is_dead vm room)
    (ends (callback_result None (both host room))) (called_in calling vm name context first 0 owns.Nobody host room) (λ e r. dead ms r) (λ e r. live r) reaches
  where
    dead : (ns : List Met) → Reaches (ends (both host room)) ns (ends b) → (y : Exchange) × Meanwhile response n count x room y b.room
    dead [] same =
        let is_b : b ≡ both host room = sym (cc) in
        subst (λ (d : Both H). (y : Exchange) × Meanwhile response n count x room y d.room) (sym is_b) (x, nothing x room)
    dead (m ∷ ns) same = absurd same

    live : Reaches (then_do (called_in calling vm name context first 0 owns.Nobody host room) (λ a. ends (continue_with nothing_more a))) ms (ends b) → (y : Exchange) × Meanwhile response n count x room y b.room
    live r =
        let q : Program (Called H) = calling host vm name context first 0 room.hub.moment room.hub.contexts in
        let f : Called H → Answered H = λ c. callback_result (value_of_end c.end) (both c.host (take_callback_end vm owns.Nobody c.end c.lines c.contexts room)) in
        let h : Called H → Both H = λ c. both c.host (take_callback_end vm owns.Nobody c.end c.lines c.contexts room) in
        let here : Reaches (runs_then q (λ c. ends (h c))) ms (ends b)
        = subst (λ (k : Course (Both H)). Reaches k ms (ends b)) (then_runs q (λ c. ends (f c)) (λ a. ends (continue_with nothing_more a))) r in
        let end : Ran q h ms b = ran q h ms b here in
        let c : Called H = end.end in
        let e : IsBeside response n count vm owns.Nobody c x room = callbacks c end.reached in
        let mid : Beside H response n count x room (behind_effects vm owns.Nobody c room) = beside response n count vm owns.Nobody c x room on e in
        let is_b : b ≡ both c.host (behind_effects vm owns.Nobody c room) = end.is ∙ ap (λ (t : CallbackEnd). both c.host (take_callback_end vm owns.Nobody t c.lines c.contexts room)) e.returned in
        subst (λ (d : Both H). (y : Exchange) × Meanwhile response n count x room y d.room) (sym is_b) (mid.then_is, mid.run)
