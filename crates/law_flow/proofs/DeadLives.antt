-- Why no callback of a dead VM comes.
use Rattle.std.proofs.Common.{◌≡◌, ℕ, Bool, true, false, not, ◌||◌, ◌==◌, List, [], ◌∷◌, ◌++◌, ap, ◌∙◌, sym, refl, subst}
use Rattle.std.proofs.lemmas.List.{append_assoc, append-nil}
use Rattle.std.specs.Prelude.{Option, None, Some, nat_lt, slice_get}
use Rattle.callouts.specs.Callouts.{callout_in, after_heard as after_part_heard}
use Rattle.callouts.specs.Steps.{after_event, after_read}
use Rattle.callouts.specs.declared.types.Callout.{Callout}
use Rattle.callouts.specs.declared.types.CallStep.{CallStep}
use Rattle.callouts.specs.declared.types.CallStep.TheVariants as steps
use Rattle.contexts.specs.declared.parts.CallAnswer.{CallAnswer}
use Rattle.filter_host.proofs.Holds.{AllEnds, all_then, all_reached}
use Rattle.filter_host.specs.Called.{Called, Calling, called_back}
use Rattle.filter_host.specs.Course.{Course, ends, asks, measures, hears, runs_then}
use Rattle.filter_host.specs.declared.host.Callback.{Callback}
use Rattle.filter_host.specs.declared.host.Callback.TheVariants as callbacks
use Rattle.filter_host.specs.declared.host.Death.TheVariants as deaths
use Rattle.exchange.specs.declared.types.Hub.{Hub}
use Rattle.h1_model.specs.Unread.{Reading}
use Rattle.store_model.specs.Program.{Program, done, ask, measure}
use Rattle.worker_model.specs.Room.{Room}
use Rattle.worker_model.specs.declared.types.Asked.{Asked}
use Rattle.worker_model.specs.declared.types.Job.{Job}
use Rattle.worker_model.specs.declared.types.Job.TheVariants as jobs
use Rattle.worker_model.specs.declared.types.Line.{Line}
use Rattle.worker_model.specs.declared.types.NewContext.{NewContext}
use Rattle.worker_model.specs.declared.types.Next.{Next}
use Rattle.worker_model.specs.declared.types.Next.TheVariants as next
use Rattle.worker_model.specs.declared.types.OtherStep.{OtherStep}
use Rattle.worker_model.specs.declared.types.OtherStep.TheVariants as others
use Rattle.worker_model.specs.declared.types.Owner.{Owner}
use Rattle.worker_model.specs.declared.types.Owner.TheVariants as owns
use Rattle.worker_model.specs.declared.types.ReadBatch.{ReadBatch}
use Rattle.worker_model.specs.Calls.{answer_if, put_call_answer, has_listener, close_call}
use Rattle.worker_model.specs.Moves.{asks_at}
use Rattle.worker_model.specs.Plan.{Plan}
use Rattle.worker_model.specs.Rooms.{is_dead, next_of, with_lines, with_contexts, room_with_sent, without_effects, lose_vm_in, take_callback_end, value_of_end}
use Rattle.worker_model.specs.Steps.{Both, both, Answered, callback_result, Then, continue_with, called_in, called_live, calls_live, apply_stage_action, moved, moved_with, tells, made_with, ticks_with, tells_ready, reads_call, drop_answer, tells_call, ends_call, works_call, works_other, notice_step, works, works_first, reads_in, reads_next, reading_on, nothing_more, unless_zero, finish_context, delete_context, create_root, create_context, tick_root, may_stream, callback_of, number_of, vm_length, plugin_length, step, is_zero, is_drawn_out, may_root}
use Rattle.worker_model.specs.Turn.{without_sent, room_for_event}
use Rattle.law_body.proofs.Spent.{of_if, not_both}
use Rattle.law_flow.proofs.Callouts.{after_kept, close_kept, answer_kept}
use Rattle.law_flow.proofs.DeadRooms.{AllGood, RoomGood, Kept, kept_then, here_kept, answered_kept, zero_kept, done_kept, deletes_kept, acts_kept, rooting_kept, creating_kept, ticked_kept, noticed_kept, quietly_kept, begins_kept, frees_kept, ends_kept, heard_kept, AsksSo, asks_so, died_dead}
use Rattle.law_flow.specs.Dead.{Watched, watching, noted_by, watch_callbacks, Runs, no_step, one_step, next_turn, NoneIs, CalledOthers, TheDeadAreCalledNoMore, VmsDie, UncalledExample, begins, started, passed_by}

-- ---- what was called

none_called : (vm : ℕ) (calls : List ℕ) → CalledOthers vm calls calls
none_called vm calls = record { more = []; is = sym (append-nil calls); others = tt }

others-append : (vm : ℕ) (a b : List ℕ) → NoneIs vm a → NoneIs vm b → NoneIs vm (a ++ b)
others-append vm [] b one two = two
others-append vm (x ∷ a) b one two = (one.0, others-append vm a b one.1 two)

called_then : (vm : ℕ) (a b c : List ℕ) → CalledOthers vm a b → CalledOthers vm b c → CalledOthers vm a c
called_then vm a b c one two = record {
  more = one.more ++ two.more;
  is = two.is ∙ (ap (λ (l : List ℕ). l ++ two.more) one.is ∙ append_assoc a one.more two.more);
  others = others-append vm one.more two.more one.others two.others;
}

-- WHAT A STEP DOES: the dead stay so and are spared, and what it called is of VMs that were not dead
record Behaves {H : Type 0} (host : Watched H) (room : Room) (host_then : Watched H) (after : Room) : Type 0 where
  kept : Kept room after
  called : (w : ℕ) → is_dead w room ≡ true → CalledOthers w host.calls host_then.calls

quiet : {H : Type 0} (host : Watched H) (room after : Room) → Kept room after → Behaves host room host after
quiet host room after kept = record { kept = kept; called = λ w d. none_called w host.calls }

-- from a room in which as many are dead, or more
behind_kept : {H : Type 0} (host : Watched H) (room mid : Room) (host_then : Watched H) (after : Room) → Kept room mid → Behaves host mid host_then after → Behaves host room host_then after
behind_kept host room mid host_then after kept b = record { kept = kept_then room mid after kept b.kept; called = λ w d. b.called w (kept.grows w d) }

module _ {H : Type 0} (calling : Calling H) (plan : Plan) where
  all_more : {A : Type 0} (P Q : A → Type 0) (p : Course A) → ((a : A) → P a → Q a) → AllEnds P p → AllEnds Q p
  all_more P Q (ends a) next_ all = next_ a all
  all_more P Q (asks vm call k) next_ all = λ r. all_more P Q (k r) next_ (all r)
  all_more P Q (measures vm call k) next_ all = λ r. all_more P Q (k r) next_ (all r)
  all_more P Q (hears t k) next_ all = λ h is. all_more P Q (k h) next_ (all h is)

  abbrev Does : Watched H → Room → Course (Both (Watched H)) → Type 0
  Does host room c = AllEnds (λ (b : Both (Watched H)). Behaves host room b.host b.room) c

  -- every end of a callback's program, with what was called then
  noted_all : {B : Type 0} (Q : B → Type 0) (calls : List ℕ) (p : Program (Called H)) (f : Called (Watched H) → Course B)
      → ((c : Called (Watched H)) → c.host.calls ≡ calls → AllEnds Q (f c)) → AllEnds Q (runs_then (noted_by calls p) f)
  noted_all Q calls (done c) f all = all (called_back c.end c.lines (watching c.host calls) c.contexts) refl
  noted_all Q calls (ask vm call k) f all = λ r. noted_all Q calls (k r) f all
  noted_all Q calls (measure vm asked k) f all = λ r. noted_all Q calls (k r) f all

  called_so : (vm : ℕ) (name : Callback) (context first second : ℕ) (own : Owner) (host : Watched H) (room : Room) → RoomGood room → (is_dead vm room ≡ true → ⊥)
      → AllEnds (λ (a : Answered (Watched H)). Behaves host room a.both.host a.both.room) (called_in (watch_callbacks calling) vm name context first second own host room)
  called_so vm name context first second own host room good alive =
      noted_all (λ (a : Answered (Watched H)). Behaves host room a.both.host a.both.room) (host.calls ++ vm ∷ [])
      (calling host.host vm name context first second room.hub.moment room.hub.contexts)
      (λ c. ends (callback_result (value_of_end c.end) (both c.host (take_callback_end vm own c.end c.lines c.contexts room))))
      (λ c is. record {
        kept = answered_kept vm own c.end c.lines c.contexts room good;
        called = λ w d. record { more = vm ∷ []; is = is; others = (λ same. alive (subst (λ (v : ℕ). is_dead v room ≡ true) (sym same) d), tt) };
      })

  live_so : (vm : ℕ) (name : Callback) (context first second : ℕ) (then_ : Then) (host : Watched H) (room : Room) → RoomGood room
      → ((value : Option (Option ℕ)) (r : Room) → RoomGood r → Kept r (then_ value r)) → Does host room (calls_live (watch_callbacks calling) vm name context first second then_ host room)
  live_so vm name context first second then_ host room good behind =
      all_then (λ (a : Answered (Watched H)). Behaves host room a.both.host a.both.room) (λ (b : Both (Watched H)). Behaves host room b.host b.room)
      (called_live (watch_callbacks calling) vm name context first second host room) (λ a. ends (continue_with then_ a))
      (of_if (λ (c : Course (Answered (Watched H))). AllEnds (λ (a : Answered (Watched H)). Behaves host room a.both.host a.both.room) c) (is_dead vm room)
      (ends (callback_result None (both host room))) (called_in (watch_callbacks calling) vm name context first second owns.Nobody host room)
      (λ dead. quiet host room room (here_kept room good)) (λ lives. called_so vm name context first second owns.Nobody host room good (λ dead. not_both (is_dead vm room) dead lives)))
      (λ a b. record { kept = kept_then room a.both.room (then_ a.value a.both.room) b.kept (behind a.value a.both.room b.kept.good); called = b.called })

  tells_so : (vm : ℕ) (name : Callback) (context first : ℕ) (host : Watched H) (room : Room) → RoomGood room → Does host room (tells (watch_callbacks calling) vm name context first host room)
  tells_so vm name context first host room good = live_so vm name context first 0 nothing_more host room good (λ value r here. here_kept r here)

  -- after a change that calls nothing
  after_change : (host : Watched H) (room mid : Room) (c : Course (Both (Watched H))) → Kept room mid → Does host mid c → Does host room c
  after_change host room mid c kept does =
      all_more (λ (b : Both (Watched H)). Behaves host mid b.host b.room) (λ (b : Both (Watched H)). Behaves host room b.host b.room) c
      (λ b so. behind_kept host room mid b.host b.room kept so) does

  moved_so : (a : Option Asked) (host : Watched H) (room : Room) → RoomGood room → ((b : Asked) → a ≡ Some b → is_dead b.vm room ≡ true → ⊥) → Does host room (moved (watch_callbacks calling) a host room)
  moved_so None host room good alive = quiet host room room (here_kept room good)
  moved_so (Some a) host room good alive =
      all_then (λ (r : Answered (Watched H)). Behaves host room r.both.host r.both.room) (λ (b : Both (Watched H)). Behaves host room b.host b.room)
      (called_in (watch_callbacks calling) a.vm (callback_of a.response a.ask.kind) a.context a.count (number_of a.ask.end) (owns.Stage a.context a.response) host room) (λ b. ends (continue_with (apply_stage_action a) b))
      (called_so a.vm (callback_of a.response a.ask.kind) a.context a.count (number_of a.ask.end) (owns.Stage a.context a.response) host room good (alive a refl))
      (λ r b. record { kept = kept_then room r.both.room (apply_stage_action a r.value r.both.room) b.kept (acts_kept a r.value r.both.room b.kept.good); called = b.called })

  moves_so : (host : Watched H) (room : Room) (r : Option Asked × List Line × Hub) → AsksSo room r → Does host room (moved_with (watch_callbacks calling) host room r)
  moves_so host room (a, lines, hub) so =
      after_change host room (with_lines room (lines, hub)) (moved (watch_callbacks calling) a host (with_lines room (lines, hub))) (record { good = so.good; grows = λ w d. d })
      (moved_so a host (with_lines room (lines, hub)) so.good (λ b is dead. so.alive b is dead))

  made_so : (host : Watched H) (room : Room) (r : Option NewContext × Room) → Kept room r.1 → Does host room (made_with (watch_callbacks calling) host r)
  made_so host room (None, mid) kept = quiet host room mid kept
  made_so host room (Some c, mid) kept =
      after_change host room mid (tells (watch_callbacks calling) c.vm callbacks.ContextCreate c.context c.root host mid) kept (tells_so c.vm callbacks.ContextCreate c.context c.root host mid kept.good)

  ticks_so : (vm root : ℕ) (host : Watched H) (room : Room) (r : Bool × Room) → Kept room r.1 → Does host room (ticks_with (watch_callbacks calling) vm root host r)
  ticks_so vm root host room (due, mid) kept =
      of_if (λ (c : Course (Both (Watched H))). Does host room c) due (tells (watch_callbacks calling) vm callbacks.Tick root 0 host mid) (ends (both host mid))
      (λ is. after_change host room mid (tells (watch_callbacks calling) vm callbacks.Tick root 0 host mid) kept (tells_so vm callbacks.Tick root 0 host mid kept.good)) (λ is. quiet host room mid kept)

  ready_so : (vm root queue : ℕ) (host : Watched H) (room : Room) → RoomGood room → Does host room (tells_ready (watch_callbacks calling) vm root queue host room)
  ready_so vm root queue host room good =
      of_if (λ (c : Course (Both (Watched H))). Does host room c) (may_stream vm root room.hub.contexts) (tells (watch_callbacks calling) vm callbacks.QueueReady root queue host room) (ends (both host room))
      (λ is. tells_so vm callbacks.QueueReady root queue host room good) (λ is. quiet host room room (here_kept room good))

  notices_so : (vm left : ℕ) (host : Watched H) (room : Room) → RoomGood room → Does host room (notice_step plan vm left host room)
  notices_so vm left host room good =
      of_if (λ (c : Course (Both (Watched H))). Does host room c) ((left == 0 || is_dead vm room) || not (nat_lt vm plan.vms)) _ _ (λ is. quiet host room room (here_kept room good))
      (λ is. λ reply. quiet host room _ (noticed_kept vm left reply room good))

  reads_call_so : (id : ℕ) (o : Option Callout) (host : Watched H) (room : Room) → RoomGood room → Does host room (reads_call id o host room)
  reads_call_so id None host room good = quiet host room room (here_kept room good)
  reads_call_so id (Some c) host room good = λ h heard. quiet host room _ (after_kept (after_read id (after_part_heard h c) room.calls) room good)

  tells_call_so : (a : Option CallAnswer) (c : Callout) (host : Watched H) (room : Room) → RoomGood room → Does host room (tells_call (watch_callbacks calling) a c host room)
  tells_call_so a c host room good =
      let mid : Room = put_call_answer a c.vm c.context room in
      let told : Course (Both (Watched H)) = calls_live (watch_callbacks calling) c.vm callbacks.CallAnswered c.context c.id 0 (drop_answer c.vm c.context) host mid in
      of_if (λ (k : Course (Both (Watched H))). Does host room k) (has_listener c room) told (ends (both host room))
      (λ is. after_change host room mid told (answer_kept a c.vm c.context room good)
      (live_so c.vm callbacks.CallAnswered c.context c.id 0 (drop_answer c.vm c.context) host mid good (λ value r here. answer_kept None c.vm c.context r here)))
      (λ is. quiet host room room (here_kept room good))

  ends_call_so : (is_answered : Bool) (id : ℕ) (o : Option Callout) (host : Watched H) (room : Room) → RoomGood room → Does host room (ends_call (watch_callbacks calling) is_answered id o host room)
  ends_call_so is_answered id None host room good = quiet host room room (here_kept room good)
  ends_call_so is_answered id (Some c) host room good =
      after_change host room (close_call id room) (tells_call (watch_callbacks calling) (answer_if is_answered c) c host (close_call id room)) (close_kept id room good)
      (tells_call_so (answer_if is_answered c) c host (close_call id room) good)

  works_call_so : (step : CallStep) (host : Watched H) (room : Room) → RoomGood room → Does host room (works_call (watch_callbacks calling) step host room)
  works_call_so (steps.Comes what) host room good = quiet host room _ (after_kept (after_event what room.calls) room good)
  works_call_so (steps.Read id) host room good = reads_call_so id (callout_in id room.calls) host room good
  works_call_so (steps.Fail id) host room good = ends_call_so false id (callout_in id room.calls) host room good
  works_call_so (steps.Answer id) host room good = ends_call_so true id (callout_in id room.calls) host room good

  works_other_so : (step : OtherStep) (host : Watched H) (room : Room) → RoomGood room → Does host room (works_other (watch_callbacks calling) step host room)
  works_other_so (others.Call step) host room good = works_call_so step host room good
  works_other_so (others.Tcp step) host room good = quiet host room room (here_kept room good)

  works_so : (job : Job) (host : Watched H) (room : Room) → RoomGood room → Does host room (works (watch_callbacks calling) plan job host room)
  works_so (jobs.Root vm plugin first) host room good = made_so host room (create_root vm plugin first room) (rooting_kept vm plugin first room good)
  works_so (jobs.Create number k) host room good = made_so host room (create_context number k room) (creating_kept number k room good)
  works_so (jobs.Tick vm root) host room good = ticks_so vm root host room (tick_root vm root room) (ticked_kept vm root room good)
  works_so (jobs.Notice vm left) host room good = notices_so vm left host room good
  works_so (jobs.Ready vm root queue) host room good = ready_so vm root queue host room good
  works_so (jobs.Other step) host room good = works_other_so step host room good
  works_so (jobs.Begin vm) host room good = tells_so vm callbacks.Begin 0 0 host room good
  works_so (jobs.Start vm root) host room good =
      live_so vm callbacks.VmStart root (vm_length vm room.hub.contexts) 0 (unless_zero vm deaths.Start) host room good (λ value r here. zero_kept vm deaths.Start value r here)
  works_so (jobs.Configure vm root plugin) host room good =
      live_so vm callbacks.Configure root (plugin_length plugin room.hub.contexts) 0 (unless_zero vm deaths.Configure) host room good (λ value r here. zero_kept vm deaths.Configure value r here)
  works_so (jobs.Done c) host room good = live_so c.vm callbacks.Done c.context 0 0 (finish_context c) host room good (λ value r here. done_kept c value r here)
  works_so (jobs.Log c) host room good = tells_so c.vm callbacks.Log c.context 0 host room good
  works_so (jobs.Delete c) host room good = live_so c.vm callbacks.Delete c.context 0 0 (delete_context c) host room good (λ value r here. deletes_kept c value r here)
  works_so jobs.Expire host room good = quiet host room _ (quietly_kept jobs.Expire room good)
  works_so (jobs.Happen what) host room good = quiet host room _ (quietly_kept (jobs.Happen what) room good)
  works_so (jobs.Enter number) host room good = quiet host room _ (quietly_kept (jobs.Enter number) room good)
  works_so (jobs.Put number response items) host room good = quiet host room _ (quietly_kept (jobs.Put number response items) room good)
  works_so (jobs.Refuse number status) host room good = quiet host room _ (quietly_kept (jobs.Refuse number status) room good)
  works_so (jobs.Close number stays) host room good = quiet host room _ (quietly_kept (jobs.Close number stays) room good)

  first_so : (js : List Job) (host : Watched H) (room : Room) → RoomGood room → Does host room (works_first (watch_callbacks calling) plan js host room)
  first_so [] host room good = quiet host room room (here_kept room good)
  first_so (job ∷ later) host room good =
      after_change host room (record room { jobs = later }) (works (watch_callbacks calling) plan job host (record room { jobs = later })) (record { good = good; grows = λ w d. d })
      (works_so job host (record room { jobs = later }) good)

  reads_so : (o : Option ReadBatch) (host : Watched H) (room : Room) → RoomGood room → Does host room (reads_next plan o host room)
  reads_so None host room good = quiet host room room (here_kept room good)
  reads_so (Some r) host room good = by_reading (reading_on r room)
    where
      by_reading : (o : Option Reading) → Does host room (reads_in plan r o host room)
      by_reading None = quiet host room (record room { reading = None }) (record { good = good; grows = λ w d. d })
      by_reading (Some reading) = λ h hears. quiet host room _ (heard_kept plan r h room good)

  step_at : (nx : Next) (host : Watched H) (room : Room) → RoomGood room → next_of room ≡ nx → Does host room (step (watch_callbacks calling) plan nx host room)
  step_at next.Read host room good is = reads_so room.reading host room good
  step_at (next.Move place) host room good is = moves_so host room (asks_at place (slice_get room.lines place) room.lines room.hub) (asks_so place room good is)
  step_at next.Work host room good is = first_so room.jobs host room good
  step_at (next.Free at) host room good is = quiet host room _ (frees_kept at room good)
  step_at (next.End place) host room good is = quiet host room _ (ends_kept place room good)
  step_at next.Begin host room good is = quiet host room _ (begins_kept room.agenda room good)
  step_at next.Rest host room good is = quiet host room room (here_kept room good)

  step_so : (host : Watched H) (room : Room) → RoomGood room → Does host room (step (watch_callbacks calling) plan (next_of room) host room)
  step_so host room good = step_at (next_of room) host room good refl

  runs_so : (b e : Both (Watched H)) → Runs (watch_callbacks calling) plan b e → RoomGood b.room → Behaves b.host b.room e.host e.room
  runs_so _ _ (no_step b) good = quiet b.host b.room b.room (here_kept b.room good)
  runs_so _ _ (one_step b m e ms reaches later) good =
      let one : Behaves b.host b.room m.host m.room
      = all_reached (λ (c : Both (Watched H)). Behaves b.host b.room c.host c.room) ms (step (watch_callbacks calling) plan (next_of b.room) b.host b.room) m (step_so b.host b.room good) reaches in
      let more : Behaves m.host m.room e.host e.room = runs_so m e later one.kept.good in
      record {
        kept = kept_then b.room m.room e.room one.kept more.kept;
        called = λ w d. called_then w b.host.calls m.host.calls e.host.calls (one.called w d) (more.called w (one.kept.grows w d));
      }
  runs_so _ _ (next_turn b e event later) good =
      let more : Behaves b.host (room_for_event plan event (without_sent b.room)) e.host e.room = runs_so (both b.host (room_for_event plan event (without_sent b.room))) e later good in
      behind_kept b.host b.room (room_for_event plan event (without_sent b.room)) e.host e.room (record { good = good; grows = λ w d. d }) more

no_lines : (room : Room) → room.lines ≡ [] → RoomGood room
no_lines room none = by_lines room.lines none
  where
    by_lines : (ls : List Line) → ls ≡ [] → AllGood room.dead ls
    by_lines [] is = tt
    by_lines (l ∷ ls) is = absurd (cc)

pub dead_uncalled : (H : Type 0) → TheDeadAreCalledNoMore H
dead_uncalled H calling plan a b e vm none before dead after =
    let one : Behaves a.host a.room b.host b.room = runs_so calling plan a b before (no_lines a.room none) in
    let two : Behaves b.host b.room e.host e.room = runs_so calling plan b e after one.kept.good in
    record { dead = two.kept.grows vm dead; called = two.called vm dead }

-- ---- by whatever cause

pub vms_die : VmsDie
vms_die = record {
  callbacks = λ vm own death lines h room. died_dead vm death (without_effects (room_with_sent lines (with_contexts h room)));
  starts = λ vm value death room is. of_if (λ (x : Room). is_dead vm x ≡ true) (is_zero value) (lose_vm_in vm death room) room (λ zero_. died_dead vm death room) (λ other_. absurd (not_both (is_zero value) is other_));
  roots = λ vm plugin first room may out.
      of_if (λ (r : Option NewContext × Room). is_dead vm r.1 ≡ true) (is_dead vm room || not (may_root vm plugin room.hub.contexts)) _ _
      (λ some. dead_of (is_dead vm room) (may_root vm plugin room.hub.contexts) some may)
      (λ none. of_if (λ (r : Option NewContext × Room). is_dead vm r.1 ≡ true) (is_drawn_out vm room.hub.contexts) _ _ (λ drawn. died_dead vm deaths.Ids room)
      (λ left. absurd (not_both (is_drawn_out vm room.hub.contexts) out left)));
  streams = λ number k root f room may out.
      of_if (λ (r : Option NewContext × Room). is_dead f.vm r.1 ≡ true) (is_dead f.vm room || not (may_stream f.vm root room.hub.contexts)) _ _
      (λ some. dead_of (is_dead f.vm room) (may_stream f.vm root room.hub.contexts) some may)
      (λ none. of_if (λ (r : Option NewContext × Room). is_dead f.vm r.1 ≡ true) (is_drawn_out f.vm room.hub.contexts) _ _ (λ drawn. died_dead f.vm deaths.Ids room)
      (λ left. absurd (not_both (is_drawn_out f.vm room.hub.contexts) out left)));
}
  where
    dead_of : (d m : Bool) → (d || not m) ≡ true → m ≡ true → d ≡ true
    dead_of true m is may = refl
    dead_of false true is may = is
    dead_of false false is may = absurd (cc)

-- ---- worked

pub uncalled_example : UncalledExample
uncalled_example = record {
  starts = one_step begins started started [] refl (no_step started);
  is_dead = refl;
  started_calls = refl;
  goes_on = one_step started passed_by passed_by [] refl (no_step passed_by);
  no_jobs = refl;
  then_calls = refl;
}
