-- All turns of a worker take no more steps than their events brought.
use Rattle.std.proofs.Common.{◌≡◌, ℕ, ◌+◌, ◌*◌, ◌≤◌, Bool, true, false, List, [], ◌∷◌, ◌++◌, length, ap, ◌∙◌, sym, refl, subst, arith}
use Rattle.filter_host.specs.Called.{Calling}
use Rattle.std.proofs.lemmas.List.{append-nil}
use Rattle.std.specs.Prelude.{if◌then◌else◌}
use Rattle.filter_host.specs.Course.{ends, Met, Reaches}
use Rattle.gate_io.specs.Events.{is_stop}
use Rattle.gate_io.specs.declared.event.Event.{Event}
use Rattle.worker_model.specs.Room.{Room}
use Rattle.worker_model.specs.Plan.{Plan}
use Rattle.worker_model.specs.Settling.{settling}
use Rattle.worker_model.specs.State.{Setting, rules_of}
use Rattle.worker_model.specs.Steps.{Both, both}
use Rattle.worker_model.specs.Turn.{vms_in, start_jobs, starts_of, ticks_of, new_ticks_of, new_ticks, ticks_due, deadline_jobs, notices_of, calls_due, happening, agenda_of, at_moment, Outcome, outcome, outcome_of, turn, turn_by, turned, most_steps}
use Rattle.law_rest.specs.Left.{work_left, byte_cost, jobs_left, parts_left, reading_left, bytes_of}
use Rattle.law_rest.specs.Paid.{starting, brought, all_brought, TakesBy, TakeAll, LivesArePaid}
use Rattle.law_rest.specs.Sizes.{OneTurn, first_state, turn_start, IsReady, Follow}
use Rattle.law_rest.proofs.Settling.{rest_is_rest}
use Rattle.law_rest.proofs.Sizes.{starts_small, times_16, few_vms, ticks_small, new_ticks_small, deadlines_small, notices_small, event_small, calls_small, parts_left-append, turn_ready, first_ready}
use Rattle.law_rest.proofs.Turns.{splits, pays, setting_fits}

starting_small : (room : Room) → parts_left 16 (start_jobs room) + parts_left 16 (new_ticks room) ≤ starting room
starting_small room = by_begun room.is_begun
  where
    by_begun : (b : Bool)
        → parts_left 16 (if b then [] else starts_of (vms_in room) room.hub.contexts.plugins) + parts_left 16 (if b then [] else new_ticks_of (vms_in room) room.hub.contexts)
        ≤ (if b then 0 else 32 + 66 * length room.hub.contexts.plugins)
    by_begun true = omega arith
    by_begun false =
        let e = starts_small (vms_in room) room.hub.contexts.plugins in
        let t = times_16 (vms_in room) (2 + 4 * length room.hub.contexts.plugins) (few_vms (length room.hub.contexts.vms)) in
        let u = new_ticks_small (vms_in room) room.hub.contexts in
        omega arith

-- what an event brings
agenda_paid : (plan : Plan) (event : Event) (room : Room) → parts_left 16 (agenda_of plan event.what (at_moment event.now room)) ≤ brought room event
agenda_paid plan event room =
    let a = starting_small (at_moment event.now room) in
    let b = ticks_small event.now (vms_in room) room.hub.contexts in
    let c = deadlines_small plan in
    let e = notices_small plan (vms_in room) in
    let f = times_16 (vms_in room) 50 (few_vms (length room.hub.contexts.vms)) in
    let g = event_small event.what (at_moment event.now room) in
    let p = parts_left-append 16 (start_jobs (at_moment event.now room)) (ticks_due (at_moment event.now room) ++ (deadline_jobs plan ++ (calls_due (at_moment event.now room) ++ (happening event.what (at_moment event.now room) ++ notices_of plan (vms_in room))))) in
    let q = parts_left-append 16 (ticks_due (at_moment event.now room)) (deadline_jobs plan ++ (calls_due (at_moment event.now room) ++ (happening event.what (at_moment event.now room) ++ notices_of plan (vms_in room)))) in
    let r = parts_left-append 16 (deadline_jobs plan) (calls_due (at_moment event.now room) ++ (happening event.what (at_moment event.now room) ++ notices_of plan (vms_in room))) in
    let s = parts_left-append 16 (happening event.what (at_moment event.now room)) (notices_of plan (vms_in room)) in
    let x = parts_left-append 16 (calls_due (at_moment event.now room)) (happening event.what (at_moment event.now room) ++ notices_of plan (vms_in room)) in
    let y = calls_small (at_moment event.now room) in
    let u = parts_left-append 16 (ticks_of event.now (vms_in room) room.hub.contexts) (new_ticks (at_moment event.now room)) in
    omega arith

start_paid : {H : Type 0} (setting : Setting) (state : Both H) (event : Event) → IsReady state → work_left 16 (turn_start setting state event) ≤ work_left 16 state.room + brought state.room event
start_paid setting state event ready =
    let none = rest_is_rest state.room ready.rested in
    let a = agenda_paid (rules_of setting) event state.room in
    let j : jobs_left 16 state.room.jobs ≡ 0 = ap (jobs_left 16) none.jobs in
    let r : reading_left 16 state.room.reading ≡ 0 = ap (reading_left 16) none.reading in
    omega arith

-- ---- one turn

-- the steps of a turn
Paid : {H : Type 0} → Bool → Calling H → Setting → Both H → OneTurn H → Type 0
Paid stop calling setting state t = (k : ℕ) × (k + work_left 16 t.end.state.room ≤ work_left 16 state.room + brought state.room t.event) × TakesBy stop calling setting state t k

stopped_paid : {H : Type 0} (calling : Calling H) (setting : Setting) (state : Both H) (t : OneTurn H) → Reaches (ends (outcome state [])) t.met (ends t.end) → Paid true calling setting state t
unfolding Paid
stopped_paid calling setting state t reaches = (0, omega (arith, same t.met reaches), refl)
  where
    same : (ms : List Met) → Reaches (ends (outcome state [])) ms (ends t.end) → work_left 16 t.end.state.room ≤ work_left 16 state.room
    same [] is =
        let one : outcome state [] ≡ t.end = (cc) in
        let e : work_left 16 state.room ≡ work_left 16 t.end.state.room = ap (λ (o : Outcome _). work_left 16 o.state.room) one in
        omega arith
    same (m ∷ ms) is = elim is [ ]

turned_paid : {H : Type 0} (calling : Calling H) (setting : Setting) (state : Both H) (t : OneTurn H) → IsReady state → Reaches (turned calling (rules_of setting) state t.event) t.met (ends t.end)
    → Paid false calling setting state t
unfolding Paid
turned_paid calling setting state t ready reaches =
    let parts = splits t.met (settling calling (rules_of setting) most_steps state.host (turn_start setting state t.event)) (λ (b : Both _). ends (outcome_of b)) t.end reaches in
    by_rest parts.0 parts.1 parts.2 parts.3 parts.4 parts.5
  where
    by_rest : (c : Both _) (ns os : List Met) → t.met ≡ ns ++ os → Reaches (settling calling (rules_of setting) most_steps state.host (turn_start setting state t.event)) ns (ends c)
        → Reaches (ends (outcome_of c)) os (ends t.end) → Paid false calling setting state t
    by_rest c ns [] met first is =
        let one : outcome_of c ≡ t.end = (cc) in
        let same : ns ≡ t.met = sym (append-nil ns) ∙ sym met in
        let p = pays calling (rules_of setting) 16 (setting_fits setting) most_steps (both state.host (turn_start setting state t.event)) c ns ready.fits first in
        let s = start_paid setting state t.event ready in
        let e : work_left 16 c.room ≡ work_left 16 t.end.state.room = ap (λ (o : Outcome _). work_left 16 o.state.room) one in
        (p.0, omega (arith, p.1, s, e), (c, subst (λ (l : List Met). Reaches (settling calling (rules_of setting) p.0 state.host (turn_start setting state t.event)) l (ends c)) same p.2, sym one))
    by_rest c ns (m ∷ os) met first is = elim is [ ]

turn_paid : {H : Type 0} (calling : Calling H) (setting : Setting) (state : Both H) (t : OneTurn H) → IsReady state → Reaches (turn calling (rules_of setting) state t.event) t.met (ends t.end)
    → Paid (is_stop t.event.what) calling setting state t
turn_paid calling setting state t ready reaches = by_stop (is_stop t.event.what) reaches
  where
    by_stop : (b : Bool) → Reaches (turn_by calling (rules_of setting) b state t.event) t.met (ends t.end) → Paid b calling setting state t
    by_stop true now = stopped_paid calling setting state t now
    by_stop false now = turned_paid calling setting state t ready now

-- ---- all of them

lives_paid : {H : Type 0} (calling : Calling H) (setting : Setting) (state : Both H) (turns : List (OneTurn H)) (last : Both H) → IsReady state → Follow calling setting state turns last
    → (total : ℕ) × (total + work_left 16 last.room ≤ work_left 16 state.room + all_brought state turns) × TakeAll calling setting state turns total
unfolding Paid
lives_paid calling setting state [] last ready follow =
    let e : work_left 16 last.room ≡ work_left 16 state.room = ap (λ (b : Both _). work_left 16 b.room) follow in (0, omega arith, refl)
lives_paid calling setting state (t ∷ turns) last ready follow =
    let one = turn_paid calling setting state t ready follow.1 in
    let more = lives_paid calling setting t.end.state turns last (turn_ready calling setting state t.event t.met t.end ready follow.0 follow.1) follow.2 in
    (one.0 + more.0, omega (arith, one.1, more.1), (one.0, more.0, one.2, more.2, refl))

pub lives_are_paid : (H : Type 0) → LivesArePaid H
lives_are_paid H calling setting host turns last follow =
    let paid = lives_paid calling setting (first_state setting host) turns last (first_ready setting host) follow in
    (paid.0, omega (arith, paid.1), paid.2)
