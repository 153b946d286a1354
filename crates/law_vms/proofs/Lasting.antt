-- What all callbacks keep of the machines, whatever these are, each step and each turn keeps.
use Rattle.std.proofs.Common.{◌≡◌, ℕ, zero, suc, ◌==◌, Bool, true, false, not, ◌||◌, List, [], ◌∷◌, sym, refl, subst}
use Rattle.std.specs.Prelude.{Option, None, Some, nat_lt, slice_get, if◌then◌else◌}
use Rattle.callouts.specs.Callouts.{callout_in}
use Rattle.callouts.specs.declared.types.Callout.{Callout}
use Rattle.callouts.specs.declared.types.CallStep.{CallStep}
use Rattle.callouts.specs.declared.types.CallStep.TheVariants as steps
use Rattle.contexts.specs.declared.parts.CallAnswer.{CallAnswer}
use Rattle.contexts.specs.declared.parts.Contexts.{Contexts}
use Rattle.filter_host.proofs.Holds.{AllEnds, all_then}
use Rattle.filter_host.specs.Called.{Called, Calling}
use Rattle.filter_host.specs.Course.{Course, ends, runs_then}
use Rattle.filter_host.specs.declared.host.Callback.{Callback}
use Rattle.filter_host.specs.declared.host.Callback.TheVariants as callbacks
use Rattle.filter_host.specs.declared.host.Death.TheVariants as deaths
use Rattle.exchange.specs.declared.types.Hub.{Hub}
use Rattle.gate_io.specs.Events.{is_stop}
use Rattle.gate_io.specs.declared.event.Event.{Event}
use Rattle.h1_model.specs.Unread.{Reading}
use Rattle.store_model.specs.Program.{Program, done, ask, measure}
use Rattle.store_model.specs.declared.call.Reply.{Reply}
use Rattle.store_model.specs.declared.metric.MetricReply.{MetricReply}
use Rattle.worker_model.specs.Room.{Room}
use Rattle.worker_model.specs.declared.types.Asked.{Asked}
use Rattle.worker_model.specs.declared.types.Job.{Job}
use Rattle.worker_model.specs.declared.types.Job.TheVariants as jobs
use Rattle.worker_model.specs.declared.types.Line.{Line}
use Rattle.worker_model.specs.declared.types.NewContext.{NewContext}
use Rattle.worker_model.specs.declared.types.Next.{Next}
use Rattle.worker_model.specs.declared.types.Next.TheVariants as next
use Rattle.worker_model.specs.declared.types.OtherStep.{OtherStep}
use Rattle.worker_model.specs.declared.types.OtherStep.TheVariants as others
use Rattle.worker_model.specs.declared.types.Owner.{Owner}
use Rattle.worker_model.specs.declared.types.Owner.TheVariants as owns
use Rattle.worker_model.specs.declared.types.ReadBatch.{ReadBatch}
use Rattle.worker_model.specs.Calls.{answer_if, put_call_answer, has_listener, close_call}
use Rattle.worker_model.specs.Moves.{asks_at}
use Rattle.worker_model.specs.Plan.{Plan}
use Rattle.worker_model.specs.Rooms.{is_dead, next_of, with_lines, take_callback_end, value_of_end}
use Rattle.worker_model.specs.Settling.{settling, settling_step, settling_rest, settling_none, is_rest}
use Rattle.worker_model.specs.Steps.{Both, both, Answered, callback_result, Then, continue_with, called_in, called_live, calls_live, apply_stage_action, moved, moved_with, tells, made_with, ticks_with, tells_ready, notice_step, reads_call, drop_answer, tells_call, ends_call, works_call, works_other, works, works_first, reads_in, reads_next, reading_on, nothing_more, unless_zero, finish_context, delete_context, create_root, create_context, tick_root, may_stream, callback_of, number_of, vm_length, plugin_length, step}
use Rattle.worker_model.specs.Turn.{Outcome, outcome_of, room_for_event, most_steps, turn_by, turn}

-- so is each end of a program
abbrev pub AllOf : {A : Type 0} → (A → Type 0) → Program A → Type 0
AllOf P (done a) = P a
AllOf P (ask vm call k) = (r : Reply) → AllOf P (k r)
AllOf P (measure vm asked k) = (r : MetricReply) → AllOf P (k r)

abbrev pub KeptBy : {H : Type 0} → Calling H → (H → Type 0) → Type 0
KeptBy calling P = (v : _) (vm : ℕ) (name : Callback) (context first second now : ℕ) (contexts : Contexts) → P v
    → AllOf (λ (c : Called _). P c.host) (calling v vm name context first second now contexts)

-- after a program all of whose ends are so
runs_so : {A B : Type 0} (P : A → Type 0) (Q : B → Type 0) (p : Program A) (f : A → Course B) → AllOf P p → ((a : A) → P a → AllEnds Q (f a)) → AllEnds Q (runs_then p f)
runs_so P Q (done a) f all more = more a all
runs_so P Q (ask vm call k) f all more = λ r. runs_so P Q (k r) f (all r) more
runs_so P Q (measure vm asked k) f all more = λ r. runs_so P Q (k r) f (all r) more

by_bool : {A : Type 0} (P : A → Type 0) (b : Bool) (a c : A) → P a → P c → P (if b then a else c)
by_bool P true a c here there = here
by_bool P false a c here there = there

module _ {H : Type 0} (calling : Calling H) (P : H → Type 0) (kept : KeptBy calling P) where
  abbrev pub Keeps : Course (Both H) → Type 0
  Keeps c = AllEnds (λ (b : Both H). P b.host) c

  called_so : (vm : ℕ) (name : Callback) (context first second : ℕ) (own : Owner) (host : H) (room : Room) → P host
      → AllEnds (λ (a : Answered H). P a.both.host) (called_in calling vm name context first second own host room)
  called_so vm name context first second own host room is =
      runs_so (λ (c : Called H). P c.host) (λ (a : Answered H). P a.both.host) (calling host vm name context first second room.hub.moment room.hub.contexts)
      (λ c. ends (callback_result (value_of_end c.end) (both c.host (take_callback_end vm own c.end c.lines c.contexts room))))
      (kept host vm name context first second room.hub.moment room.hub.contexts is) (λ c here. here)

  live_so : (vm : ℕ) (name : Callback) (context first second : ℕ) (behind : Then) (host : H) (room : Room) → P host
      → Keeps (calls_live calling vm name context first second behind host room)
  live_so vm name context first second behind host room is =
      all_then (λ (a : Answered H). P a.both.host) (λ (b : Both H). P b.host) (called_live calling vm name context first second host room) (λ a. ends (continue_with behind a))
      (by_bool (λ (c : Course (Answered H)). AllEnds (λ (a : Answered H). P a.both.host) c) (is_dead vm room) (ends (callback_result None (both host room)))
      (called_in calling vm name context first second owns.Nobody host room) is (called_so vm name context first second owns.Nobody host room is))
      (λ a here. here)

  moved_so : (a : Option Asked) (host : H) (room : Room) → P host → Keeps (moved calling a host room)
  moved_so None host room is = is
  moved_so (Some a) host room is =
      all_then (λ (c : Answered H). P c.both.host) (λ (b : Both H). P b.host)
      (called_in calling a.vm (callback_of a.response a.ask.kind) a.context a.count (number_of a.ask.end) (owns.Stage a.context a.response) host room) (λ b. ends (continue_with (apply_stage_action a) b))
      (called_so a.vm (callback_of a.response a.ask.kind) a.context a.count (number_of a.ask.end) (owns.Stage a.context a.response) host room is) (λ c here. here)

  moves_so : (host : H) (room : Room) (r : Option Asked × List Line × Hub) → P host → Keeps (moved_with calling host room r)
  moves_so host room (a, lines, hub) is = moved_so a host (with_lines room (lines, hub)) is

  made_so : (host : H) (r : Option NewContext × Room) → P host → Keeps (made_with calling host r)
  made_so host (None, room) is = is
  made_so host (Some c, room) is = live_so c.vm callbacks.ContextCreate c.context c.root 0 nothing_more host room is

  ticks_so : (vm root : ℕ) (host : H) (r : Bool × Room) → P host → Keeps (ticks_with calling vm root host r)
  ticks_so vm root host (due, room) is = by_bool Keeps due (tells calling vm callbacks.Tick root 0 host room) (ends (both host room)) (live_so vm callbacks.Tick root 0 0 nothing_more host room is) is

  ready_so : (vm root queue : ℕ) (host : H) (room : Room) → P host → Keeps (tells_ready calling vm root queue host room)
  ready_so vm root queue host room is =
      by_bool Keeps (may_stream vm root room.hub.contexts) (tells calling vm callbacks.QueueReady root queue host room) (ends (both host room))
      (live_so vm callbacks.QueueReady root queue 0 nothing_more host room is) is

  notices_so : (plan : Plan) (vm left : ℕ) (host : H) (room : Room) → P host → Keeps (notice_step plan vm left host room)
  notices_so plan vm left host room is = by_bool Keeps ((left == 0 || is_dead vm room) || not (nat_lt vm plan.vms)) _ _ is (λ reply. is)

  reads_call_so : (id : ℕ) (o : Option Callout) (host : H) (room : Room) → P host → Keeps (reads_call id o host room)
  reads_call_so id None host room is = is
  reads_call_so id (Some c) host room is = λ h heard_so. is

  tells_call_so : (answer : Option CallAnswer) (c : Callout) (host : H) (room : Room) → P host → Keeps (tells_call calling answer c host room)
  tells_call_so answer c host room is =
      by_bool Keeps (has_listener c room) _ (ends (both host room))
      (live_so c.vm callbacks.CallAnswered c.context c.id 0 (drop_answer c.vm c.context) host (put_call_answer answer c.vm c.context room) is) is

  ends_call_so : (answered : Bool) (id : ℕ) (o : Option Callout) (host : H) (room : Room) → P host → Keeps (ends_call calling answered id o host room)
  ends_call_so answered id None host room is = is
  ends_call_so answered id (Some c) host room is = tells_call_so (answer_if answered c) c host (close_call id room) is

  works_call_so : (step : CallStep) (host : H) (room : Room) → P host → Keeps (works_call calling step host room)
  works_call_so (steps.Comes what) host room is = is
  works_call_so (steps.Read id) host room is = reads_call_so id (callout_in id room.calls) host room is
  works_call_so (steps.Fail id) host room is = ends_call_so false id (callout_in id room.calls) host room is
  works_call_so (steps.Answer id) host room is = ends_call_so true id (callout_in id room.calls) host room is

  works_other_so : (step : OtherStep) (host : H) (room : Room) → P host → Keeps (works_other calling step host room)
  works_other_so (others.Call step) host room is = works_call_so step host room is
  works_other_so (others.Tcp step) host room is = is

  works_so : (plan : Plan) (job : Job) (host : H) (room : Room) → P host → Keeps (works calling plan job host room)
  works_so plan (jobs.Root vm plugin first) host room is = made_so host (create_root vm plugin first room) is
  works_so plan (jobs.Create number k) host room is = made_so host (create_context number k room) is
  works_so plan (jobs.Tick vm root) host room is = ticks_so vm root host (tick_root vm root room) is
  works_so plan (jobs.Notice vm left) host room is = notices_so plan vm left host room is
  works_so plan (jobs.Ready vm root queue) host room is = ready_so vm root queue host room is
  works_so plan (jobs.Begin vm) host room is = live_so vm callbacks.Begin 0 0 0 nothing_more host room is
  works_so plan (jobs.Start vm root) host room is = live_so vm callbacks.VmStart root (vm_length vm room.hub.contexts) 0 (unless_zero vm deaths.Start) host room is
  works_so plan (jobs.Configure vm root plugin) host room is = live_so vm callbacks.Configure root (plugin_length plugin room.hub.contexts) 0 (unless_zero vm deaths.Configure) host room is
  works_so plan (jobs.Done c) host room is = live_so c.vm callbacks.Done c.context 0 0 (finish_context c) host room is
  works_so plan (jobs.Log c) host room is = live_so c.vm callbacks.Log c.context 0 0 nothing_more host room is
  works_so plan (jobs.Delete c) host room is = live_so c.vm callbacks.Delete c.context 0 0 (delete_context c) host room is
  works_so plan (jobs.Other step) host room is = works_other_so step host room is
  works_so plan jobs.Expire host room is = is
  works_so plan (jobs.Happen what) host room is = is
  works_so plan (jobs.Enter number) host room is = is
  works_so plan (jobs.Put number response items) host room is = is
  works_so plan (jobs.Refuse number status) host room is = is
  works_so plan (jobs.Close number stays) host room is = is

  first_so : (plan : Plan) (js : List Job) (host : H) (room : Room) → P host → Keeps (works_first calling plan js host room)
  first_so plan [] host room is = is
  first_so plan (job ∷ later) host room is = works_so plan job host (record room { jobs = later }) is

  reads_so : (plan : Plan) (o : Option ReadBatch) (host : H) (room : Room) → P host → Keeps (reads_next plan o host room)
  reads_so plan None host room is = is
  reads_so plan (Some r) host room is = by_reading (reading_on r room)
    where
      by_reading : (o : Option Reading) → Keeps (reads_in plan r o host room)
      by_reading None = is
      by_reading (Some reading) = λ h heard_so. is

  pub step_so : (plan : Plan) (nx : Next) (host : H) (room : Room) → P host → Keeps (step calling plan nx host room)
  step_so plan next.Read host room is = reads_so plan room.reading host room is
  step_so plan (next.Move place) host room is = moves_so host room (asks_at place (slice_get room.lines place) room.lines room.hub) is
  step_so plan next.Work host room is = first_so plan room.jobs host room is
  step_so plan (next.Free at) host room is = is
  step_so plan (next.End place) host room is = is
  step_so plan next.Begin host room is = is
  step_so plan next.Rest host room is = is

  settles_so : (plan : Plan) (n : ℕ) (host : H) (room : Room) → P host → Keeps (settling calling plan n host room)
  settles_so plan zero host room is = subst Keeps (sym (settling_none calling plan host room)) is
  settles_so plan (suc n) host room is = by_rest (λ (b : Both H) (here : P b.host). settles_so plan n b.host b.room here) (is_rest (next_of room)) refl
    where
      by_rest : ((b : Both H) → P b.host → Keeps (settling calling plan n b.host b.room)) → (r : Bool) → is_rest (next_of room) ≡ r → Keeps (settling calling plan (suc n) host room)
      by_rest later true rest = subst Keeps (sym (settling_rest calling plan n (next_of room) host room refl rest)) is
      by_rest later false rest =
          subst Keeps (sym (settling_step calling plan n (next_of room) host room refl rest))
          (all_then (λ (b : Both H). P b.host) (λ (b : Both H). P b.host) (step calling plan (next_of room) host room) (λ b. settling calling plan n b.host b.room)
          (step_so plan (next_of room) host room is) later)

  pub turn_so : (plan : Plan) (b : Both H) (event : Event) → P b.host → AllEnds (λ (out : Outcome H). P out.state.host) (turn calling plan b event)
  turn_so plan b event is = by_stop (is_stop event.what)
    where
      by_stop : (stop : Bool) → AllEnds (λ (out : Outcome H). P out.state.host) (turn_by calling plan stop b event)
      by_stop true = is
      by_stop false =
          all_then (λ (c : Both H). P c.host) (λ (out : Outcome H). P out.state.host) (settling calling plan most_steps b.host (room_for_event plan event b.room)) (λ c. ends (outcome_of c))
          (settles_so plan most_steps b.host (room_for_event plan event b.room) is) (λ c here. here)
