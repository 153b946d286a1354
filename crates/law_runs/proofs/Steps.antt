-- Each step and each turn leaves the machines and the contexts at home, and a machine that is gone is of a VM that is held for dead.
use Rattle.std.proofs.Common.{◌≡◌, inl, inr, ⊎_elim, ℕ, zero, suc, ◌==◌, Bool, true, false, not, ◌||◌, List, [], ◌∷◌, length, refl, ◌∙◌, sym, subst}
use Rattle.std.specs.Prelude.{Option, None, Some, nat_lt, slice_get}
use Rattle.callouts.specs.Callouts.{callout_in, without, after_heard as after_part_heard}
use Rattle.callouts.specs.Steps.{after_event, after_read}
use Rattle.callouts.specs.declared.types.Callout.{Callout}
use Rattle.callouts.specs.declared.types.CallStep.{CallStep}
use Rattle.callouts.specs.declared.types.CallStep.TheVariants as steps
use Rattle.contexts.specs.declared.parts.CallAnswer.{CallAnswer}
use Rattle.filter_host.proofs.Holds as holds
use Rattle.filter_host.specs.Course.{Course, ends, asks, measures, hears, then_do, runs_then}
use Rattle.filter_host.specs.declared.host.Callback.{Callback}
use Rattle.filter_host.specs.declared.host.Callback.TheVariants as callbacks
use Rattle.filter_host.specs.declared.host.Death.TheVariants as deaths
use Rattle.exchange.specs.declared.types.Hub.{Hub}
use Rattle.gate_io.specs.Events.{is_stop}
use Rattle.gate_io.specs.declared.event.Event.{Event}
use Rattle.filter_host.specs.Heard.{Heard}
use Rattle.h1_model.specs.Unread.{Reading}
use Rattle.store_model.specs.Program.{Program, done, ask, measure}
use Rattle.store_model.specs.declared.call.Reply.{Reply}
use Rattle.store_model.specs.declared.metric.MetricReply.{MetricReply}
use Rattle.vm_host.specs.Slots.{slot_in, calling}
use Rattle.vm_host.specs.declared.slots.Vms.{Vms}
use Rattle.law_vms.specs.Apart as programs
use Rattle.law_vms.specs.Apart.{CallbacksAreApart}
use Rattle.law_vms.specs.OwnChanges.{ArePlaced, CallbacksChangeTheirOwn, PlacesStay}
use Rattle.worker_model.specs.Room.{Room}
use Rattle.worker_model.specs.declared.types.Asked.{Asked}
use Rattle.worker_model.specs.declared.types.Job.{Job}
use Rattle.worker_model.specs.declared.types.Job.TheVariants as jobs
use Rattle.worker_model.specs.declared.types.Line.{Line}
use Rattle.worker_model.specs.declared.types.NewContext.{NewContext}
use Rattle.worker_model.specs.declared.types.Next.{Next}
use Rattle.worker_model.specs.declared.types.Next.TheVariants as next
use Rattle.worker_model.specs.declared.types.OtherStep.{OtherStep}
use Rattle.worker_model.specs.declared.types.OtherStep.TheVariants as others
use Rattle.worker_model.specs.declared.types.Owner.{Owner}
use Rattle.worker_model.specs.declared.types.Owner.TheVariants as owns
use Rattle.worker_model.specs.declared.types.ReadBatch.{ReadBatch}
use Rattle.worker_model.specs.Calls.{answer_if, put_call_answer, has_listener, close_call}
use Rattle.worker_model.specs.Moves.{asks_at}
use Rattle.worker_model.specs.Plan.{Plan}
use Rattle.worker_model.specs.Rooms.{is_dead, next_of, with_lines, take_callback_end, value_of_end}
use Rattle.worker_model.specs.Settling.{settling, settling_step, settling_rest, settling_none, is_rest}
use Rattle.worker_model.specs.Steps.{Both, both, Answered, callback_result, Then, continue_with, called_in, called_live, calls_live, apply_stage_action, moved, moved_with, tells, made_with, ticks_with, tells_ready, notice_step, reads_call, drop_answer, tells_call, ends_call, works_call, works_other, works, works_first, reads_in, reads_next, reading_on, nothing_more, unless_zero, finish_context, delete_context, create_root, create_context, tick_root, may_stream, callback_of, number_of, vm_length, plugin_length, run_silent_job, step}
use Rattle.worker_model.specs.Turn.{Outcome, outcome_of, room_for_event, most_steps, turn_by, turn}
use Rattle.law_runs.proofs.Callbacks.{LeavesAll, leaves_all}
use Rattle.law_runs.proofs.Counted.{Counted, counted}
use Rattle.law_runs.proofs.Changing.{pick}
use Rattle.law_runs.proofs.Rooms.{Stands, IsDeath, to_answered, KeepsThen, nothing_keeps, unless_zero_keeps, done_keeps, deletes_keeps, to_calls, to_after, to_answer, answer_keeps_none, acts_on_keeps, InThird, in_asks_at, to_lines, StandsThere, to_root, to_stream, StandsDue, to_tick, to_notice, to_heard, to_quietly, to_ends_at, to_begun, to_frees}

-- so is each end of a course, whatever is replied and whatever is heard, also what no text spells
abbrev pub AllEnds : {A : Type 0} → (A → Type 0) → Course A → Type 0
AllEnds P (ends a) = P a
AllEnds P (asks vm call k) = (r : Reply) → AllEnds P (k r)
AllEnds P (measures vm asked k) = (r : MetricReply) → AllEnds P (k r)
AllEnds P (hears t k) = (h : Heard) → AllEnds P (k h)

pub all_then : {A B : Type 0} (P : A → Type 0) (Q : B → Type 0) (p : Course A) (f : A → Course B) → AllEnds P p → ((a : A) → P a → AllEnds Q (f a)) → AllEnds Q (then_do p f)
all_then P Q (ends a) f all next = next a all
all_then P Q (asks vm call k) f all next = λ r. all_then P Q (k r) f (all r) next
all_then P Q (measures vm asked k) f all next = λ r. all_then P Q (k r) f (all r) next
all_then P Q (hears t k) f all next = λ h. all_then P Q (k h) f (all h) next

-- so it is of what is heard of texts
pub as_heard : {A : Type 0} (P : A → Type 0) (p : Course A) → AllEnds P p → holds.AllEnds P p
as_heard P (ends a) all = all
as_heard P (asks vm call k) all = λ r. as_heard P (k r) (all r)
as_heard P (measures vm asked k) all = λ r. as_heard P (k r) (all r)
as_heard P (hears t k) all = λ h is. as_heard P (k h) (all h)

-- after a program all of whose ends are so
pub runs_so : {A B : Type 0} (P : A → Type 0) (Q : B → Type 0) (p : Program A) (f : A → Course B) → programs.AllEnds P p → ((a : A) → P a → AllEnds Q (f a)) → AllEnds Q (runs_then p f)
runs_so P Q (done a) f all more = more a all
runs_so P Q (ask vm call k) f all more = λ r. runs_so P Q (k r) f (all r) more
runs_so P Q (measure vm call k) f all more = λ r. runs_so P Q (k r) f (all r) more

-- of these VMs the machine is gone
abbrev pub Gone : (ℕ → Type 0) → Vms → ℕ → Type 0
Gone Had v vm = ((slot_in v vm).live ≡ None) × Had vm

-- SO MANY SLOTS AND VMS WITH CONTEXTS, machines at their numbers, and of those that had a machine only the dead have none
abbrev pub Fine : ℕ → (ℕ → Type 0) → Vms → Room → Type 0
Fine m Had host room = Stands Counted m (Gone Had host) room × (length host.slots ≡ m) × ArePlaced host

module _ (apart : CallbacksAreApart) (change : CallbacksChangeTheirOwn) (stay : PlacesStay) (m : ℕ) (Had : ℕ → Type 0) where
  abbrev pub FineBoth : Both Vms → Type 0
  FineBoth b = Fine m Had b.host b.room

  abbrev pub Keeps : Course (Both Vms) → Type 0
  Keeps c = AllEnds FineBoth c

  abbrev FineAnswer : Answered Vms → Type 0
  FineAnswer a = FineBoth a.both

  called_fine : (vm : ℕ) (name : Callback) (context first second : ℕ) (own : Owner) (host : Vms) (room : Room) → Fine m Had host room
      → AllEnds FineAnswer (called_in calling vm name context first second own host room)
  called_fine vm name context first second own host room is =
      runs_so (LeavesAll host vm room.hub.contexts) FineAnswer (calling host vm name context first second room.hub.moment room.hub.contexts)
      (λ c. ends (callback_result (value_of_end c.end) (both c.host (take_callback_end vm own c.end c.lines c.contexts room))))
      (leaves_all apart change stay host vm name context first second room.hub.moment room.hub.contexts is.2)
      (λ c left. (
        to_answered Counted counted m (Gone Had host) (Gone Had c.host) vm own c.end c.lines c.contexts room
            (λ wm gone. ⊎_elim (λ (before : (slot_in host wm).live ≡ None). inl (before, gone.1)) (λ (death : (wm ≡ vm) × IsDeath c.end). inr death) (left.gone wm gone.0))
            (left.contexts ∙ is.0.0) is.0,
        left.slots ∙ is.1,
        left.placed,
      ))

  live_fine : (vm : ℕ) (name : Callback) (context first second : ℕ) (behind : Then) → ((D : ℕ → Type 0) → KeepsThen Counted counted m D behind) → (host : Vms) (room : Room) → Fine m Had host room
      → Keeps (calls_live calling vm name context first second behind host room)
  live_fine vm name context first second behind keeps host room is =
      all_then FineAnswer FineBoth (called_live calling vm name context first second host room) (λ a. ends (continue_with behind a))
      (pick (AllEnds FineAnswer) (is_dead vm room) (ends (callback_result None (both host room))) (called_in calling vm name context first second owns.Nobody host room) is
      (called_fine vm name context first second owns.Nobody host room is))
      (λ a here. (keeps (Gone Had a.both.host) a.value a.both.room here.0, here.1, here.2))

  tells_fine : (vm : ℕ) (name : Callback) (context first : ℕ) (host : Vms) (room : Room) → Fine m Had host room → Keeps (tells calling vm name context first host room)
  tells_fine vm name context first host room is = live_fine vm name context first 0 nothing_more (λ D. nothing_keeps Counted counted m D) host room is

  moved_fine : (a : Option Asked) (host : Vms) (room : Room) → Fine m Had host room → Keeps (moved calling a host room)
  moved_fine None host room is = is
  moved_fine (Some a) host room is =
      all_then FineAnswer FineBoth
      (called_in calling a.vm (callback_of a.response a.ask.kind) a.context a.count (number_of a.ask.end) (owns.Stage a.context a.response) host room) (λ b. ends (continue_with (apply_stage_action a) b))
      (called_fine a.vm (callback_of a.response a.ask.kind) a.context a.count (number_of a.ask.end) (owns.Stage a.context a.response) host room is)
      (λ c here. (acts_on_keeps Counted counted m (Gone Had c.both.host) a c.value c.both.room here.0, here.1, here.2))

  moves_fine : (host : Vms) (room : Room) (r : Option Asked × List Line × Hub) → Fine m Had host room → InThird Counted m r → Keeps (moved_with calling host room r)
  moves_fine host room (a, lines, hub) is third = moved_fine a host (with_lines room (lines, hub)) (to_lines Counted counted m (Gone Had host) room (lines, hub) is.0 third, is.1, is.2)

  made_fine : (host : Vms) (r : Option NewContext × Room) → StandsThere Counted counted m (Gone Had host) r → (length host.slots ≡ m) × ArePlaced host → Keeps (made_with calling host r)
  made_fine host (None, room) s rest = (s, rest.0, rest.1)
  made_fine host (Some c, room) s rest = tells_fine c.vm callbacks.ContextCreate c.context c.root host room (s, rest.0, rest.1)

  ticks_fine : (vm root : ℕ) (host : Vms) (r : Bool × Room) → StandsDue Counted counted m (Gone Had host) r → (length host.slots ≡ m) × ArePlaced host → Keeps (ticks_with calling vm root host r)
  ticks_fine vm root host (due, room) s rest =
      pick Keeps due (tells calling vm callbacks.Tick root 0 host room) (ends (both host room)) (tells_fine vm callbacks.Tick root 0 host room (s, rest.0, rest.1)) (s, rest.0, rest.1)

  ready_fine : (vm root queue : ℕ) (host : Vms) (room : Room) → Fine m Had host room → Keeps (tells_ready calling vm root queue host room)
  ready_fine vm root queue host room is =
      pick Keeps (may_stream vm root room.hub.contexts) (tells calling vm callbacks.QueueReady root queue host room) (ends (both host room)) (tells_fine vm callbacks.QueueReady root queue host room is) is

  notices_fine : (plan : Plan) (vm left : ℕ) (host : Vms) (room : Room) → Fine m Had host room → Keeps (notice_step plan vm left host room)
  notices_fine plan vm left host room is =
      pick Keeps ((left == 0 || is_dead vm room) || not (nat_lt vm plan.vms)) _ _ is (λ reply. (to_notice Counted counted m (Gone Had host) vm left reply room is.0, is.1, is.2))

  quiet_fine : (job : Job) (host : Vms) (room : Room) → Fine m Had host room → FineBoth (both host (run_silent_job job room))
  quiet_fine job host room is = (to_quietly Counted counted m (Gone Had host) job room is.0, is.1, is.2)

  -- ---- callouts

  reads_call_fine : (id : ℕ) (o : Option Callout) (host : Vms) (room : Room) → Fine m Had host room → Keeps (reads_call id o host room)
  reads_call_fine id None host room is = is
  reads_call_fine id (Some c) host room is = λ h. (to_after Counted counted m (Gone Had host) (after_read id (after_part_heard h c) room.calls) room is.0, is.1, is.2)

  tells_call_fine : (answer : Option CallAnswer) (c : Callout) (host : Vms) (room : Room) → Fine m Had host room → Keeps (tells_call calling answer c host room)
  tells_call_fine answer c host room is =
      pick Keeps (has_listener c room) (calls_live calling c.vm callbacks.CallAnswered c.context c.id 0 (drop_answer c.vm c.context) host (put_call_answer answer c.vm c.context room)) (ends (both host room))
      (live_fine c.vm callbacks.CallAnswered c.context c.id 0 (drop_answer c.vm c.context) (λ D. answer_keeps_none Counted counted m D c.vm c.context) host
      (put_call_answer answer c.vm c.context room) (to_answer Counted counted m (Gone Had host) answer c.vm c.context room is.0, is.1, is.2)) is

  ends_call_fine : (answered : Bool) (id : ℕ) (o : Option Callout) (host : Vms) (room : Room) → Fine m Had host room → Keeps (ends_call calling answered id o host room)
  ends_call_fine answered id None host room is = is
  ends_call_fine answered id (Some c) host room is =
      tells_call_fine (answer_if answered c) c host (close_call id room) (to_calls Counted counted m (Gone Had host) (without id room.calls) room is.0, is.1, is.2)

  works_call_fine : (step : CallStep) (host : Vms) (room : Room) → Fine m Had host room → Keeps (works_call calling step host room)
  works_call_fine (steps.Comes what) host room is = (to_after Counted counted m (Gone Had host) (after_event what room.calls) room is.0, is.1, is.2)
  works_call_fine (steps.Read id) host room is = reads_call_fine id (callout_in id room.calls) host room is
  works_call_fine (steps.Fail id) host room is = ends_call_fine false id (callout_in id room.calls) host room is
  works_call_fine (steps.Answer id) host room is = ends_call_fine true id (callout_in id room.calls) host room is

  works_other_fine : (step : OtherStep) (host : Vms) (room : Room) → Fine m Had host room → Keeps (works_other calling step host room)
  works_other_fine (others.Call step) host room is = works_call_fine step host room is
  works_other_fine (others.Tcp step) host room is = is

  works_fine : (plan : Plan) (job : Job) (host : Vms) (room : Room) → Fine m Had host room → Keeps (works calling plan job host room)
  works_fine plan (jobs.Root vm plugin first) host room is = made_fine host (create_root vm plugin first room) (to_root Counted counted m (Gone Had host) vm plugin first room is.0) (is.1, is.2)
  works_fine plan (jobs.Create number k) host room is = made_fine host (create_context number k room) (to_stream Counted counted m (Gone Had host) number k room is.0) (is.1, is.2)
  works_fine plan (jobs.Tick vm root) host room is = ticks_fine vm root host (tick_root vm root room) (to_tick Counted counted m (Gone Had host) vm root room is.0) (is.1, is.2)
  works_fine plan (jobs.Notice vm left) host room is = notices_fine plan vm left host room is
  works_fine plan (jobs.Ready vm root queue) host room is = ready_fine vm root queue host room is
  works_fine plan (jobs.Begin vm) host room is = tells_fine vm callbacks.Begin 0 0 host room is
  works_fine plan (jobs.Start vm root) host room is =
      live_fine vm callbacks.VmStart root (vm_length vm room.hub.contexts) 0 (unless_zero vm deaths.Start) (λ D. unless_zero_keeps Counted counted m D vm deaths.Start) host room is
  works_fine plan (jobs.Configure vm root plugin) host room is =
      live_fine vm callbacks.Configure root (plugin_length plugin room.hub.contexts) 0 (unless_zero vm deaths.Configure) (λ D. unless_zero_keeps Counted counted m D vm deaths.Configure) host room is
  works_fine plan (jobs.Done c) host room is = live_fine c.vm callbacks.Done c.context 0 0 (finish_context c) (λ D. done_keeps Counted counted m D c) host room is
  works_fine plan (jobs.Log c) host room is = tells_fine c.vm callbacks.Log c.context 0 host room is
  works_fine plan (jobs.Delete c) host room is = live_fine c.vm callbacks.Delete c.context 0 0 (delete_context c) (λ D. deletes_keeps Counted counted m D c) host room is
  works_fine plan (jobs.Other step) host room is = works_other_fine step host room is
  works_fine plan jobs.Expire host room is = quiet_fine jobs.Expire host room is
  works_fine plan (jobs.Happen what) host room is = quiet_fine (jobs.Happen what) host room is
  works_fine plan (jobs.Enter number) host room is = quiet_fine (jobs.Enter number) host room is
  works_fine plan (jobs.Put number response items) host room is = quiet_fine (jobs.Put number response items) host room is
  works_fine plan (jobs.Refuse number status) host room is = quiet_fine (jobs.Refuse number status) host room is
  works_fine plan (jobs.Close number stays) host room is = quiet_fine (jobs.Close number stays) host room is

  first_fine : (plan : Plan) (js : List Job) (host : Vms) (room : Room) → Fine m Had host room → Keeps (works_first calling plan js host room)
  first_fine plan [] host room is = is
  first_fine plan (job ∷ later) host room is = works_fine plan job host (record room { jobs = later }) is

  reads_fine : (plan : Plan) (o : Option ReadBatch) (host : Vms) (room : Room) → Fine m Had host room → Keeps (reads_next plan o host room)
  reads_fine plan None host room is = is
  reads_fine plan (Some r) host room is = by_reading (reading_on r room)
    where
      by_reading : (o : Option Reading) → Keeps (reads_in plan r o host room)
      by_reading None = is
      by_reading (Some reading) = λ h. (to_heard Counted counted m (Gone Had host) plan r h (record room { reading = None }) is.0, is.1, is.2)

  pub step_fine : (plan : Plan) (nx : Next) (host : Vms) (room : Room) → Fine m Had host room → Keeps (step calling plan nx host room)
  step_fine plan next.Read host room is = reads_fine plan room.reading host room is
  step_fine plan (next.Move place) host room is =
      moves_fine host room (asks_at place (slice_get room.lines place) room.lines room.hub) is (in_asks_at Counted counted m place (slice_get room.lines place) room.lines room.hub is.0.0)
  step_fine plan next.Work host room is = first_fine plan room.jobs host room is
  step_fine plan (next.Free at) host room is = (to_frees Counted counted m (Gone Had host) at (slice_get room.waits at) room is.0, is.1, is.2)
  step_fine plan (next.End place) host room is = (to_ends_at Counted counted m (Gone Had host) place room is.0, is.1, is.2)
  step_fine plan next.Begin host room is = (to_begun Counted counted m (Gone Had host) room.agenda room is.0, is.1, is.2)
  step_fine plan next.Rest host room is = is

  pub settles_fine : (plan : Plan) (n : ℕ) (host : Vms) (room : Room) → Fine m Had host room → Keeps (settling calling plan n host room)
  settles_fine plan zero host room is = subst Keeps (sym (settling_none calling plan host room)) is
  settles_fine plan (suc n) host room is = by_rest (λ (b : Both Vms) (here : FineBoth b). settles_fine plan n b.host b.room here) (is_rest (next_of room)) refl
    where
      by_rest : ((b : Both Vms) → FineBoth b → Keeps (settling calling plan n b.host b.room)) → (r : Bool) → is_rest (next_of room) ≡ r → Keeps (settling calling plan (suc n) host room)
      by_rest later true rest = subst Keeps (sym (settling_rest calling plan n (next_of room) host room refl rest)) is
      by_rest later false rest =
          subst Keeps (sym (settling_step calling plan n (next_of room) host room refl rest))
          (all_then FineBoth FineBoth (step calling plan (next_of room) host room) (λ b. settling calling plan n b.host b.room) (step_fine plan (next_of room) host room is) later)

  pub turn_fine : (plan : Plan) (b : Both Vms) (event : Event) → FineBoth b → AllEnds (λ (out : Outcome Vms). FineBoth out.state) (turn calling plan b event)
  turn_fine plan b event is = by_stop (is_stop event.what)
    where
      by_stop : (stop : Bool) → AllEnds (λ (out : Outcome Vms). FineBoth out.state) (turn_by calling plan stop b event)
      by_stop true = is
      by_stop false =
          all_then FineBoth (λ (out : Outcome Vms). FineBoth out.state) (settling calling plan most_steps b.host (room_for_event plan event b.room)) (λ c. ends (outcome_of c))
          (settles_fine plan most_steps b.host (room_for_event plan event b.room) is) (λ c here. here)
