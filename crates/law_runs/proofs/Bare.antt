-- The steps and the turns of a worker are those in which no machine is passed over.
use Rattle.std.proofs.Common.{◌≡◌, ℕ, zero, suc, Bool, true, false, List, [], ◌∷◌, length, refl, ap, ◌∙◌, sym, subst}
use Rattle.std.specs.Prelude.{Option, None, Some, slice_get, if◌then◌else◌}
use Rattle.callouts.specs.Callouts.{callout_in, without}
use Rattle.callouts.specs.declared.types.Callout.{Callout}
use Rattle.callouts.specs.declared.types.CallStep.{CallStep}
use Rattle.callouts.specs.declared.types.CallStep.TheVariants as steps
use Rattle.contexts.specs.declared.parts.CallAnswer.{CallAnswer}
use Rattle.contexts.specs.declared.parts.Contexts.{Contexts}
use Rattle.filter_host.specs.Called.{Called}
use Rattle.filter_host.specs.Course.{Course, ends, asks, measures, hears, then_do, runs_then}
use Rattle.filter_host.specs.declared.host.Callback.{Callback}
use Rattle.filter_host.specs.declared.host.Callback.TheVariants as callbacks
use Rattle.filter_host.specs.declared.host.Death.TheVariants as deaths
use Rattle.exchange.specs.declared.types.Hub.{Hub}
use Rattle.gate_io.specs.Events.{is_stop}
use Rattle.gate_io.specs.declared.event.Event.{Event}
use Rattle.store_model.specs.Program.{Program}
use Rattle.vm_host.specs.Slots.{slot_in, calling}
use Rattle.vm_host.specs.Vms.{VmAt}
use Rattle.vm_host.specs.declared.slots.Vms.{Vms}
use Rattle.law_vms.specs.Apart.{CallbacksAreApart}
use Rattle.law_vms.specs.MadeVms.{MadeVmsAreInPlace}
use Rattle.law_vms.specs.OwnChanges.{IsPlaced, ArePlaced, CallbacksChangeTheirOwn, PlacesStay}
use Rattle.law_vms.specs.Silent.{DeadVmsAreSilent}
use Rattle.worker_model.specs.Room.{Room}
use Rattle.worker_model.specs.declared.types.Asked.{Asked}
use Rattle.worker_model.specs.declared.types.Job.{Job}
use Rattle.worker_model.specs.declared.types.Job.TheVariants as jobs
use Rattle.worker_model.specs.declared.types.Line.{Line}
use Rattle.worker_model.specs.declared.types.NewContext.{NewContext}
use Rattle.worker_model.specs.declared.types.Next.{Next}
use Rattle.worker_model.specs.declared.types.Next.TheVariants as next
use Rattle.worker_model.specs.declared.types.OtherStep.{OtherStep}
use Rattle.worker_model.specs.declared.types.OtherStep.TheVariants as others
use Rattle.worker_model.specs.declared.types.Owner.{Owner}
use Rattle.worker_model.specs.declared.types.Owner.TheVariants as owns
use Rattle.worker_model.specs.Calls.{answer_if, put_call_answer, has_listener, close_call}
use Rattle.worker_model.specs.Moves.{asks_at}
use Rattle.worker_model.specs.Plan.{Plan}
use Rattle.worker_model.specs.Rooms.{is_dead, next_of, with_lines, take_callback_end, value_of_end}
use Rattle.worker_model.specs.Settling.{settling, settling_step, settling_rest, settling_none, is_rest}
use Rattle.worker_model.specs.Steps.{Both, both, Answered, callback_result, Then, continue_with, called_in, calls_live, apply_stage_action, moved, moved_with, tells, made_with, ticks_with, tells_ready, drop_answer, tells_call, ends_call, works_call, works_other, works, works_first, nothing_more, unless_zero, finish_context, delete_context, create_root, create_context, tick_root, may_stream, callback_of, number_of, vm_length, plugin_length, step}
use Rattle.worker_model.specs.Turn.{outcome_of, room_for_event, most_steps, turn_by, turn}
use Rattle.law_runs.specs.Bare.{run_if, always, RunsAllItAsks}
use Rattle.law_runs.specs.Homes.{made_worker, IsHome}
use Rattle.law_runs.specs.Runs.{AreAtHome}
use Rattle.law_runs.proofs.Counted.{Counted, counted}
use Rattle.law_runs.proofs.Homes.{Nobody, fine_of, begins_at_home, stays_at_home}
use Rattle.law_runs.proofs.Rooms.{InThird, in_asks_at, to_lines, StandsThere, to_root, to_stream, StandsDue, to_tick, to_calls, to_answer}
use Rattle.law_runs.proofs.Runs.{runs_what_is_asked}
use Rattle.law_runs.proofs.Steps.{AllEnds, Gone, Fine, FineBoth, step_fine}

-- ---- a callback

at_slot : DeadVmsAreSilent → (v : Vms) (vm : ℕ) (o : Option VmAt) (name : Callback) (context first second now : ℕ) (h : Contexts) → ArePlaced v → AreAtHome v h → (slot_in v vm).live ≡ o
    → calling v vm name context first second now h ≡ run_if v vm o name context first second now h
at_slot dead v vm None name context first second now h placed home is = dead v vm name context first second now h is
at_slot dead v vm (Some live) name context first second now h placed home is =
    runs_what_is_asked.whole v vm live name context first second now h (record { stands = is; place = subst (IsPlaced vm) is (placed vm) }) home

-- ---- courses that go on alike from where they come to

on_alike : {A B : Type 0} (P : A → Type 0) (p : Course A) (f g : A → Course B) → AllEnds P p → ((a : A) → P a → f a ≡ g a) → then_do p f ≡ then_do p g
on_alike P (ends a) f g all alike = alike a all
on_alike P (asks vm call k) f g all alike = λ i. asks vm call (λ r. on_alike P (k r) f g (all r) alike i)
on_alike P (measures vm asked k) f g all alike = λ i. measures vm asked (λ r. on_alike P (k r) f g (all r) alike i)
on_alike P (hears t k) f g all alike = λ i. hears t (λ h. on_alike P (k h) f g (all h) alike i)

module _ (dead : DeadVmsAreSilent) (apart : CallbacksAreApart) (change : CallbacksChangeTheirOwn) (stay : PlacesStay) (m : ℕ) where
  abbrev At : Vms → Room → Type 0
  At host room = Fine m Nobody host room

  called_same : (vm : ℕ) (name : Callback) (context first second : ℕ) (own : Owner) (host : Vms) (room : Room) → At host room
      → called_in calling vm name context first second own host room ≡ called_in always vm name context first second own host room
  called_same vm name context first second own host room is =
      ap (λ (p : Program (Called Vms)). runs_then p (λ c. ends (callback_result (value_of_end c.end) (both c.host (take_callback_end vm own c.end c.lines c.contexts room)))))
      (at_slot dead host vm (slot_in host vm).live name context first second room.hub.moment room.hub.contexts is.2 (is.0.0 ∙ sym is.1) refl)

  live_same : (vm : ℕ) (name : Callback) (context first second : ℕ) (behind : Then) (host : Vms) (room : Room) → At host room
      → calls_live calling vm name context first second behind host room ≡ calls_live always vm name context first second behind host room
  live_same vm name context first second behind host room is =
      ap (λ (c : Course (Answered Vms)). then_do (if is_dead vm room then ends (callback_result None (both host room)) else c) (λ a. ends (continue_with behind a)))
      (called_same vm name context first second owns.Nobody host room is)

  tells_same : (vm : ℕ) (name : Callback) (context first : ℕ) (host : Vms) (room : Room) → At host room → tells calling vm name context first host room ≡ tells always vm name context first host room
  tells_same vm name context first host room is = live_same vm name context first 0 nothing_more host room is

  moved_same : (a : Option Asked) (host : Vms) (room : Room) → At host room → moved calling a host room ≡ moved always a host room
  moved_same None host room is = refl
  moved_same (Some a) host room is =
      ap (λ (c : Course (Answered Vms)). then_do c (λ b. ends (continue_with (apply_stage_action a) b)))
      (called_same a.vm (callback_of a.response a.ask.kind) a.context a.count (number_of a.ask.end) (owns.Stage a.context a.response) host room is)

  moves_same : (host : Vms) (room : Room) (r : Option Asked × List Line × Hub) → At host room → InThird Counted m r → moved_with calling host room r ≡ moved_with always host room r
  moves_same host room (a, lines, hub) is third = moved_same a host (with_lines room (lines, hub)) (to_lines Counted counted m (Gone Nobody host) room (lines, hub) is.0 third, is.1, is.2)

  made_same : (host : Vms) (r : Option NewContext × Room) → StandsThere Counted counted m (Gone Nobody host) r → (length host.slots ≡ m) × ArePlaced host → made_with calling host r ≡ made_with always host r
  made_same host (None, room) s rest = refl
  made_same host (Some c, room) s rest = tells_same c.vm callbacks.ContextCreate c.context c.root host room (s, rest.0, rest.1)

  ticks_same : (vm root : ℕ) (host : Vms) (r : Bool × Room) → StandsDue Counted counted m (Gone Nobody host) r → (length host.slots ≡ m) × ArePlaced host → ticks_with calling vm root host r ≡ ticks_with always vm root host r
  ticks_same vm root host (due, room) s rest =
      ap (λ (c : Course (Both Vms)). if due then c else ends (both host room)) (tells_same vm callbacks.Tick root 0 host room (s, rest.0, rest.1))

  ready_same : (vm root queue : ℕ) (host : Vms) (room : Room) → At host room → tells_ready calling vm root queue host room ≡ tells_ready always vm root queue host room
  ready_same vm root queue host room is =
      ap (λ (c : Course (Both Vms)). if may_stream vm root room.hub.contexts then c else ends (both host room)) (tells_same vm callbacks.QueueReady root queue host room is)

  -- ---- callouts

  tells_call_same : (answer : Option CallAnswer) (c : Callout) (host : Vms) (room : Room) → At host room → tells_call calling answer c host room ≡ tells_call always answer c host room
  tells_call_same answer c host room is =
      ap (λ (k : Course (Both Vms)). if has_listener c room then k else ends (both host room))
      (live_same c.vm callbacks.CallAnswered c.context c.id 0 (drop_answer c.vm c.context) host (put_call_answer answer c.vm c.context room)
      (to_answer Counted counted m (Gone Nobody host) answer c.vm c.context room is.0, is.1, is.2))

  ends_call_same : (answered : Bool) (id : ℕ) (o : Option Callout) (host : Vms) (room : Room) → At host room → ends_call calling answered id o host room ≡ ends_call always answered id o host room
  ends_call_same answered id None host room is = refl
  ends_call_same answered id (Some c) host room is =
      tells_call_same (answer_if answered c) c host (close_call id room) (to_calls Counted counted m (Gone Nobody host) (without id room.calls) room is.0, is.1, is.2)

  works_call_same : (step : CallStep) (host : Vms) (room : Room) → At host room → works_call calling step host room ≡ works_call always step host room
  works_call_same (steps.Comes what) host room is = refl
  works_call_same (steps.Read id) host room is = refl
  works_call_same (steps.Fail id) host room is = ends_call_same false id (callout_in id room.calls) host room is
  works_call_same (steps.Answer id) host room is = ends_call_same true id (callout_in id room.calls) host room is

  works_other_same : (step : OtherStep) (host : Vms) (room : Room) → At host room → works_other calling step host room ≡ works_other always step host room
  works_other_same (others.Call step) host room is = works_call_same step host room is
  works_other_same (others.Tcp step) host room is = refl

  works_same : (plan : Plan) (job : Job) (host : Vms) (room : Room) → At host room → works calling plan job host room ≡ works always plan job host room
  works_same plan (jobs.Root vm plugin first) host room is = made_same host (create_root vm plugin first room) (to_root Counted counted m (Gone Nobody host) vm plugin first room is.0) (is.1, is.2)
  works_same plan (jobs.Create number k) host room is = made_same host (create_context number k room) (to_stream Counted counted m (Gone Nobody host) number k room is.0) (is.1, is.2)
  works_same plan (jobs.Tick vm root) host room is = ticks_same vm root host (tick_root vm root room) (to_tick Counted counted m (Gone Nobody host) vm root room is.0) (is.1, is.2)
  works_same plan (jobs.Notice vm left) host room is = refl
  works_same plan (jobs.Ready vm root queue) host room is = ready_same vm root queue host room is
  works_same plan (jobs.Begin vm) host room is = tells_same vm callbacks.Begin 0 0 host room is
  works_same plan (jobs.Start vm root) host room is = live_same vm callbacks.VmStart root (vm_length vm room.hub.contexts) 0 (unless_zero vm deaths.Start) host room is
  works_same plan (jobs.Configure vm root plugin) host room is = live_same vm callbacks.Configure root (plugin_length plugin room.hub.contexts) 0 (unless_zero vm deaths.Configure) host room is
  works_same plan (jobs.Done c) host room is = live_same c.vm callbacks.Done c.context 0 0 (finish_context c) host room is
  works_same plan (jobs.Log c) host room is = tells_same c.vm callbacks.Log c.context 0 host room is
  works_same plan (jobs.Delete c) host room is = live_same c.vm callbacks.Delete c.context 0 0 (delete_context c) host room is
  works_same plan (jobs.Other step) host room is = works_other_same step host room is
  works_same plan jobs.Expire host room is = refl
  works_same plan (jobs.Happen what) host room is = refl
  works_same plan (jobs.Enter number) host room is = refl
  works_same plan (jobs.Put number response items) host room is = refl
  works_same plan (jobs.Refuse number status) host room is = refl
  works_same plan (jobs.Close number stays) host room is = refl

  first_same : (plan : Plan) (js : List Job) (host : Vms) (room : Room) → At host room → works_first calling plan js host room ≡ works_first always plan js host room
  first_same plan [] host room is = refl
  first_same plan (job ∷ later) host room is = works_same plan job host (record room { jobs = later }) is

  pub step_same : (plan : Plan) (nx : Next) (host : Vms) (room : Room) → At host room → step calling plan nx host room ≡ step always plan nx host room
  step_same plan next.Read host room is = refl
  step_same plan (next.Move place) host room is =
      moves_same host room (asks_at place (slice_get room.lines place) room.lines room.hub) is (in_asks_at Counted counted m place (slice_get room.lines place) room.lines room.hub is.0.0)
  step_same plan next.Work host room is = first_same plan room.jobs host room is
  step_same plan (next.Free at) host room is = refl
  step_same plan (next.End place) host room is = refl
  step_same plan next.Begin host room is = refl
  step_same plan next.Rest host room is = refl

  settles_same : (plan : Plan) (n : ℕ) (host : Vms) (room : Room) → At host room → settling calling plan n host room ≡ settling always plan n host room
  settles_same plan zero host room is = settling_none calling plan host room ∙ sym (settling_none always plan host room)
  settles_same plan (suc n) host room is = by_rest (λ (b : Both Vms) (here : FineBoth apart change stay m Nobody b). settles_same plan n b.host b.room here) (is_rest (next_of room)) refl
    where
      by_rest : ((b : Both Vms) → FineBoth apart change stay m Nobody b → settling calling plan n b.host b.room ≡ settling always plan n b.host b.room) → (r : Bool) → is_rest (next_of room) ≡ r
          → settling calling plan (suc n) host room ≡ settling always plan (suc n) host room
      by_rest later true rest = settling_rest calling plan n (next_of room) host room refl rest ∙ sym (settling_rest always plan n (next_of room) host room refl rest)
      by_rest later false rest =
          settling_step calling plan n (next_of room) host room refl rest
          ∙ (on_alike (FineBoth apart change stay m Nobody) (step calling plan (next_of room) host room) (λ b. settling calling plan n b.host b.room) (λ b. settling always plan n b.host b.room)
          (step_fine apart change stay m Nobody plan (next_of room) host room is) later
          ∙ (ap (λ (c : Course (Both Vms)). then_do c (λ b. settling always plan n b.host b.room)) (step_same plan (next_of room) host room is)
          ∙ sym (settling_step always plan n (next_of room) host room refl rest)))

  pub turn_same : (plan : Plan) (b : Both Vms) (event : Event) → At b.host b.room → turn calling plan b event ≡ turn always plan b event
  turn_same plan b event is = by_stop (is_stop event.what)
    where
      by_stop : (stop : Bool) → turn_by calling plan stop b event ≡ turn_by always plan stop b event
      by_stop true = refl
      by_stop false = ap (λ (c : Course (Both Vms)). then_do c (λ d. ends (outcome_of d))) (settles_same plan most_steps b.host (room_for_event plan event b.room) is)

nobody : (b : Both Vms) (vm : ℕ) → Gone Nobody b.host vm → ⊥
nobody b vm gone = gone.1

pub runs_all_it_asks : DeadVmsAreSilent → CallbacksAreApart → CallbacksChangeTheirOwn → PlacesStay → MadeVmsAreInPlace → RunsAllItAsks
runs_all_it_asks dead apart change stay in_place = record {
  each_step = λ plan b home. step_same dead apart change stay (length b.host.slots) plan (next_of b.room) b.host b.room (fine_of Nobody b home (nobody b));
  each_turn = λ plan b event home. turn_same dead apart change stay (length b.host.slots) plan b event (fine_of Nobody b home (nobody b));
  steps = λ config who seed plan e goes.
      (let home : IsHome e = (stays_at_home apart change stay).steps plan (made_worker config who seed) e goes (begins_at_home in_place config who seed) in
      step_same dead apart change stay (length e.host.slots) plan (next_of e.room) e.host e.room (fine_of Nobody e home (nobody e)));
  turns = λ config who seed plan e event life.
      (let home : IsHome e = (stays_at_home apart change stay).turns plan (made_worker config who seed) e life (begins_at_home in_place config who seed) in
      turn_same dead apart change stay (length e.host.slots) plan e event (fine_of Nobody e home (nobody e)));
}
