-- Steps that are not of a line without filters leave it untouched.
use Rattle.std.proofs.Common.{◌≡◌, ℕ, ◌==◌, Bool, true, false, not, ◌||◌, cond, List, [], ◌∷◌, ◌++◌, refl, ap, ◌∙◌, sym, subst, if◌then◌else◌}
use Rattle.std.specs.Prelude.{Option, None, Some, is_some, nat_lt, slice_get, position, filter, find}
use Rattle.callouts.specs.Callouts.{callout_in, after_heard as after_part_heard}
use Rattle.callouts.specs.Steps.{After, after_event, after_read}
use Rattle.callouts.specs.declared.types.Callout.{Callout}
use Rattle.callouts.specs.declared.types.CallStep.{CallStep}
use Rattle.callouts.specs.declared.types.CallStep.TheVariants as steps
use Rattle.contexts.specs.declared.parts.CallAnswer.{CallAnswer}
use Rattle.filter_host.specs.Called.{Calling}
use Rattle.filter_host.specs.Course.{Course, ends, asks, measures, hears, Met, Reaches}
use Rattle.filter_host.specs.Heard.{Heard}
use Rattle.filter_host.proofs.Holds.{AllEnds, all_then, all_reached}
use Rattle.filter_host.specs.declared.host.Callback.{Callback}
use Rattle.filter_host.specs.declared.host.Callback.TheVariants as callbacks
use Rattle.filter_host.specs.declared.host.Death.TheVariants as deaths
use Rattle.exchange.specs.declared.types.Hub.{Hub}
use Rattle.h1_model.specs.Unread.{Reading}
use Rattle.worker_model.specs.Calls.{answer_if, put_call_answer, has_listener, close_call}
use Rattle.worker_model.specs.Room.{Room}
use Rattle.worker_model.specs.declared.types.Asked.{Asked}
use Rattle.worker_model.specs.declared.types.Job.{Job}
use Rattle.worker_model.specs.declared.types.Job.TheVariants as jobs
use Rattle.worker_model.specs.declared.types.Line.{Line}
use Rattle.worker_model.specs.declared.types.NewContext.{NewContext}
use Rattle.worker_model.specs.declared.types.Next.{Next}
use Rattle.worker_model.specs.declared.types.Next.TheVariants as next
use Rattle.worker_model.specs.declared.types.OtherStep.{OtherStep}
use Rattle.worker_model.specs.declared.types.OtherStep.TheVariants as others
use Rattle.worker_model.specs.declared.types.Owner.{Owner}
use Rattle.worker_model.specs.declared.types.Owner.TheVariants.{Nobody, Stage}
use Rattle.worker_model.specs.declared.types.ReadBatch.{ReadBatch}
use Rattle.worker_model.specs.Moves.{asks_at}
use Rattle.worker_model.specs.Plan.{Plan}
use Rattle.worker_model.specs.Rooms.{next_of, next_part, has_move, moves_or, frees_or, ends_or, begins_or_rests, is_any, is_over, is_released, is_dead, with_lines}
use Rattle.worker_model.specs.Steps.{Both, both, line_in, Answered, callback_result, Then, continue_with, nothing_more, called_in, called_live, calls_live, apply_stage_action, unless_zero, finish_context, delete_context, create_root, create_context, tick_root, may_stream, reads_in, reads_next, reading_on, moved, move_at, tells, made_one, made_with, ticks_with, tells_ready, notice_step, reads_call, drop_answer, tells_call, ends_call, works_call, works_other, works, works_first, callback_of, number_of, vm_length, plugin_length, step}
use Rattle.law_lines.specs.Isolation.{IsFree, is_job_of, is_read_of, is_at, is_work_of, is_first_of, is_step_of, lines_on, IsUntouched, StepsOfOthers, no_step, one_step, OthersLeaveTheLine}
use Rattle.law_lines.specs.Logs.{WriteLogs}
use Rattle.law_lines.proofs.Callouts.{seen_is}
use Rattle.law_lines.proofs.Kept.{by_bool}
use Rattle.law_lines.proofs.Looks.{is_n, line_in_is}
use Rattle.law_lines.proofs.Rooms.{logs_then}
use Rattle.law_lines.proofs.Spared.{Free, Spared, spared_then, spared_itself, SparedThen, answered_spared, zero_spared, done_spared, deletes_spared, acts_spared, call_step_spared, closes_call_spared, answer_spared, drops_answer_spared, rooting_spared, creating_spared, ticked_spared, noticed_spared, quietly_spared, begins_spared, frees_spared, ends_spared, unread_spared, heard_spared, AsksBeside, asks_beside}
use Rattle.law_lines.proofs.Untouched.{aside_itself}

nothing_spared : (n : ℕ) → SparedThen n nothing_more
nothing_spared n value room free = spared_itself n room free

module _ {H : Type 0} (calling : Calling H) (logs : WriteLogs calling) (plan : Plan) (n : ℕ) where
  -- every end of a course spares the line
  abbrev Spares : Room → Course (Both H) → Type 0
  Spares room course = AllEnds (λ (b : Both H). Spared n room b.room) course

  called_spares : (vm : ℕ) (name : Callback) (context first second : ℕ) (own : Owner) (host : H) (room : Room) → Free n room
      → AllEnds (λ (a : Answered H). Spared n room a.both.room) (called_in calling vm name context first second own host room)
  called_spares vm name context first second own host room free =
      logs_then (λ (a : Answered H). Spared n room a.both.room) (calling host vm name context first second room.hub.moment room.hub.contexts) _ (logs host vm name context first second room.hub.moment room.hub.contexts)
      (λ c are. answered_spared n vm own c.end c.lines c.contexts room free are)

  live_spares : (vm : ℕ) (name : Callback) (context first second : ℕ) (behind : Then) (host : H) (room : Room) → Free n room → SparedThen n behind
      → Spares room (calls_live calling vm name context first second behind host room)
  live_spares vm name context first second behind host room free spared =
      all_then (λ (a : Answered H). Spared n room a.both.room) (λ (b : Both H). Spared n room b.room) (called_live calling vm name context first second host room) (λ a. ends (continue_with behind a))
      (by_bool (λ (p : Course (Answered H)). AllEnds (λ (a : Answered H). Spared n room a.both.room) p) (is_dead vm room) (ends (callback_result None (both host room))) (called_in calling vm name context first second Nobody host room)
      (λ e. spared_itself n room free) (λ e. called_spares vm name context first second Nobody host room free))
      (λ a s. spared_then n room a.both.room (behind a.value a.both.room) s (spared a.value a.both.room s.lines.free))

  tells_spares : (vm : ℕ) (name : Callback) (context first : ℕ) (host : H) (room : Room) → Free n room → Spares room (tells calling vm name context first host room)
  tells_spares vm name context first host room free = live_spares vm name context first 0 nothing_more host room free (nothing_spared n)

  -- after a change that calls nothing
  spares_first : (a b : Room) (p : Course (Both H)) → Spared n a b → Spares b p → Spares a p
  spares_first a b (ends c) one all = spared_then n a b c.room one all
  spares_first a b (asks vm call k) one all = λ r. spares_first a b (k r) one (all r)
  spares_first a b (measures vm call k) one all = λ r. spares_first a b (k r) one (all r)
  spares_first a b (hears t k) one all = λ h is. spares_first a b (k h) one (all h is)

  -- ---- a move

  moved_spares : (o : Option Asked) (host : H) (room : Room) → ((a : Asked) → o ≡ Some a → (a.line == n) ≡ false) → Free n room → Spares room (moved calling o host room)
  moved_spares None host room away free = spared_itself n room free
  moved_spares (Some a) host room away free =
      all_then (λ (b : Answered H). Spared n room b.both.room) (λ (b : Both H). Spared n room b.room)
      (called_in calling a.vm (callback_of a.response a.ask.kind) a.context a.count (number_of a.ask.end) (Stage a.context a.response) host room) (λ b. ends (continue_with (apply_stage_action a) b))
      (called_spares a.vm (callback_of a.response a.ask.kind) a.context a.count (number_of a.ask.end) (Stage a.context a.response) host room free)
      (λ b s. spared_then n room b.both.room (apply_stage_action a b.value b.both.room) s (acts_spared n a (away a refl) b.value b.both.room s.lines.free))

  move_spares : (place : ℕ) (host : H) (room : Room) → is_at n (slice_get room.lines place) ≡ false → Free n room → Spares room (move_at calling place host room)
  move_spares place host room other free =
      let t : Option Asked × List Line × Hub = asks_at place (slice_get room.lines place) room.lines room.hub in
      let a : AsksBeside n room t = asks_beside n place room other free in
      let mid : Room = with_lines room (t.1, t.2) in
      spares_first room mid (moved calling t.0 host mid) a.spared (moved_spares t.0 host mid a.away a.spared.lines.free)

  -- ---- jobs

  made_spares : (host : H) (room : Room) (p : Option NewContext × Room) → Spared n room p.1 → Spares room (made_with calling host p)
  made_spares host room (o, mid) one = spares_first room mid (made_one calling o host mid) one (by_one o)
    where
      by_one : (o : Option NewContext) → Spares mid (made_one calling o host mid)
      by_one None = spared_itself n mid one.lines.free
      by_one (Some c) = tells_spares c.vm callbacks.ContextCreate c.context c.root host mid one.lines.free

  ticks_spare : (vm root : ℕ) (host : H) (room : Room) (p : Bool × Room) → Spared n room p.1 → Spares room (ticks_with calling vm root host p)
  ticks_spare vm root host room (due, mid) one =
      by_bool (Spares room) due (tells calling vm callbacks.Tick root 0 host mid) (ends (both host mid))
      (λ e. spares_first room mid (tells calling vm callbacks.Tick root 0 host mid) one (tells_spares vm callbacks.Tick root 0 host mid one.lines.free)) (λ e. one)

  ready_spares : (vm root queue : ℕ) (host : H) (room : Room) → Free n room → Spares room (tells_ready calling vm root queue host room)
  ready_spares vm root queue host room free =
      by_bool (Spares room) (may_stream vm root room.hub.contexts) (tells calling vm callbacks.QueueReady root queue host room) (ends (both host room))
      (λ e. tells_spares vm callbacks.QueueReady root queue host room free) (λ e. spared_itself n room free)

  notices_spare : (vm left : ℕ) (host : H) (room : Room) → Free n room → Spares room (notice_step plan vm left host room)
  notices_spare vm left host room free =
      by_bool (Spares room) ((left == 0 || is_dead vm room) || not (nat_lt vm plan.vms)) (ends (both host room)) _ (λ e. spared_itself n room free)
      (λ e. λ r. noticed_spared n vm left r room free)

  -- ---- callouts

  reads_call_spares : (id : ℕ) (o : Option Callout) (host : H) (room : Room) → Free n room → Spares room (reads_call id o host room)
  reads_call_spares id None host room free = spared_itself n room free
  reads_call_spares id (Some c) host room free =
      let after : Heard → After = λ h. after_read id (after_part_heard h c) room.calls in
      λ h heard. call_step_spared n (after h).calls (after h).next room free

  tells_call_spares : (answer : Option CallAnswer) (c : Callout) (host : H) (room : Room) → Free n room → Spares room (tells_call calling answer c host room)
  tells_call_spares answer c host room free =
      let mid : Room = put_call_answer answer c.vm c.context room in
      let one : Spared n room mid = answer_spared n answer c.vm c.context room free in
      by_bool (Spares room) (has_listener c room) (calls_live calling c.vm callbacks.CallAnswered c.context c.id 0 (drop_answer c.vm c.context) host mid) (ends (both host room))
      (λ e. spares_first room mid _ one (live_spares c.vm callbacks.CallAnswered c.context c.id 0 (drop_answer c.vm c.context) host mid one.lines.free (drops_answer_spared n c.vm c.context)))
      (λ e. spared_itself n room free)

  ends_call_spares : (answered : Bool) (id : ℕ) (o : Option Callout) (host : H) (room : Room) → Free n room → Spares room (ends_call calling answered id o host room)
  ends_call_spares answered id None host room free = spared_itself n room free
  ends_call_spares answered id (Some c) host room free =
      let mid : Room = close_call id room in
      let one : Spared n room mid = closes_call_spared n id room free in
      spares_first room mid (tells_call calling (answer_if answered c) c host mid) one (tells_call_spares (answer_if answered c) c host mid one.lines.free)

  works_call_spares : (step : CallStep) (host : H) (room : Room) → Free n room → Spares room (works_call calling step host room)
  works_call_spares (steps.Comes what) host room free = let a : After = after_event what room.calls in call_step_spared n a.calls a.next room free
  works_call_spares (steps.Read id) host room free = reads_call_spares id (callout_in id room.calls) host room free
  works_call_spares (steps.Fail id) host room free = ends_call_spares false id (callout_in id room.calls) host room free
  works_call_spares (steps.Answer id) host room free = ends_call_spares true id (callout_in id room.calls) host room free

  works_other_spares : (step : OtherStep) (host : H) (room : Room) → Free n room → Spares room (works_other calling step host room)
  works_other_spares (others.Call step) host room free = works_call_spares step host room free
  works_other_spares (others.Tcp step) host room free = spared_itself n room free

  works_spare : (job : Job) (host : H) (room : Room) → is_work_of n room job ≡ false → Free n room → Spares room (works calling plan job host room)
  works_spare (jobs.Begin vm) host room other free = tells_spares vm callbacks.Begin 0 0 host room free
  works_spare (jobs.Root vm plugin is_first) host room other free = made_spares host room (create_root vm plugin is_first room) (rooting_spared n vm plugin is_first room free)
  works_spare (jobs.Start vm root) host room other free = live_spares vm callbacks.VmStart root (vm_length vm room.hub.contexts) 0 (unless_zero vm deaths.Start) host room free (zero_spared n vm deaths.Start)
  works_spare (jobs.Configure vm root plugin) host room other free =
      live_spares vm callbacks.Configure root (plugin_length plugin room.hub.contexts) 0 (unless_zero vm deaths.Configure) host room free (zero_spared n vm deaths.Configure)
  works_spare (jobs.Tick vm root) host room other free = ticks_spare vm root host room (tick_root vm root room) (ticked_spared n vm root room free)
  works_spare jobs.Expire host room other free = quietly_spared n jobs.Expire room other free
  works_spare (jobs.Happen w) host room other free = quietly_spared n (jobs.Happen w) room other free
  works_spare (jobs.Create m k) host room other free = made_spares host room (create_context m k room) (creating_spared n m k room other free)
  works_spare (jobs.Enter m) host room other free = quietly_spared n (jobs.Enter m) room other free
  works_spare (jobs.Put m response items) host room other free = quietly_spared n (jobs.Put m response items) room other free
  works_spare (jobs.Refuse m status) host room other free = quietly_spared n (jobs.Refuse m status) room other free
  works_spare (jobs.Done c) host room other free = live_spares c.vm callbacks.Done c.context 0 0 (finish_context c) host room free (done_spared n c)
  works_spare (jobs.Log c) host room other free = tells_spares c.vm callbacks.Log c.context 0 host room free
  works_spare (jobs.Delete c) host room other free = live_spares c.vm callbacks.Delete c.context 0 0 (delete_context c) host room free (deletes_spared n c)
  works_spare (jobs.Close m stays) host room other free = quietly_spared n (jobs.Close m stays) room other free
  works_spare (jobs.Notice vm left) host room other free = notices_spare vm left host room free
  works_spare (jobs.Ready vm root queue) host room other free = ready_spares vm root queue host room free
  works_spare (jobs.Other step) host room other free = works_other_spares step host room free

  -- one that is not of the line is not among its jobs
  work_is : (room : Room) (job : Job) → is_work_of n room job ≡ false → is_job_of n job ≡ false
  work_is room (jobs.Begin vm) other = refl
  work_is room (jobs.Root vm plugin is_first) other = refl
  work_is room (jobs.Start vm root) other = refl
  work_is room (jobs.Configure vm root plugin) other = refl
  work_is room (jobs.Tick vm root) other = refl
  work_is room jobs.Expire other = refl
  work_is room (jobs.Happen w) other = other
  work_is room (jobs.Create m k) other = other
  work_is room (jobs.Enter m) other = other
  work_is room (jobs.Put m response items) other = other
  work_is room (jobs.Refuse m status) other = other
  work_is room (jobs.Done c) other = refl
  work_is room (jobs.Log c) other = refl
  work_is room (jobs.Delete c) other = refl
  work_is room (jobs.Close m stays) other = other
  work_is room (jobs.Notice vm left) other = refl
  work_is room (jobs.Ready vm root queue) other = refl
  work_is room (jobs.Other step) other = refl

  -- whether a job is of the line depends on no other job
  pub work_in : (room : Room) (later : List Job) (job : Job) → is_work_of n room job ≡ false → is_work_of n (record room { jobs = later }) job ≡ false
  work_in room later (jobs.Begin vm) other = other
  work_in room later (jobs.Root vm plugin is_first) other = other
  work_in room later (jobs.Start vm root) other = other
  work_in room later (jobs.Configure vm root plugin) other = other
  work_in room later (jobs.Tick vm root) other = other
  work_in room later jobs.Expire other = other
  work_in room later (jobs.Happen w) other = other
  work_in room later (jobs.Create m k) other = other
  work_in room later (jobs.Enter m) other = other
  work_in room later (jobs.Put m response items) other = other
  work_in room later (jobs.Refuse m status) other = other
  work_in room later (jobs.Done c) other = other
  work_in room later (jobs.Log c) other = other
  work_in room later (jobs.Delete c) other = other
  work_in room later (jobs.Close m stays) other = other
  work_in room later (jobs.Notice vm left) other = other
  work_in room later (jobs.Ready vm root queue) other = other
  work_in room later (jobs.Other step) other = other

  first_spares : (js : List Job) (host : H) (room : Room) → room.jobs ≡ js → is_first_of n room js ≡ false → Free n room → Spares room (works_first calling plan js host room)
  first_spares [] host room is other free = spared_itself n room free
  first_spares (job ∷ later) host room is other free =
      let mid : Room = record room { jobs = later } in
      let one : Spared n room mid = record {
        lines = aside_itself n room.lines room.hub free;
        jobs = sym (ap (λ (l : List Job). filter (is_job_of n) (l ++ room.agenda)) is ∙ ap (λ (b : Bool). cond b (job ∷ filter (is_job_of n) (later ++ room.agenda)) (filter (is_job_of n) (later ++ room.agenda))) (work_is room job other));
        unread = λ e. e;
      } in
      spares_first room mid (works calling plan job host mid) one (works_spare job host mid (work_in room later job other) free)

  -- ---- a reading

  reads_spare : (o : Option ReadBatch) (host : H) (room : Room) → is_read_of n o ≡ false → Free n room → Spares room (reads_next plan o host room)
  reads_spare None host room other free = spared_itself n room free
  reads_spare (Some r) host room other free = by_reading (reading_on r room)
    where
      by_reading : (o : Option Reading) → Spares room (reads_in plan r o host room)
      by_reading None = unread_spared n room free
      by_reading (Some reading) = λ h says. heard_spared n plan r h room other free

  -- ---- EACH STEP

  pub step_spares : (host : H) (room : Room) → Free n room → is_step_of n (next_of room) room ≡ false → Spares room (step calling plan (next_of room) host room) × (is_read_of n room.reading ≡ false)
  step_spares host room free = by_reading room.reading refl
    where
      Goal : Next → Type 0
      Goal x = is_step_of n x room ≡ false → Spares room (step calling plan x host room) × (is_read_of n room.reading ≡ false)

      quiet : room.reading ≡ None → is_read_of n room.reading ≡ false
      quiet is = ap (is_read_of n) is

      by_agenda : room.reading ≡ None → room.jobs ≡ [] → (todo : List Job) → room.agenda ≡ todo → Goal (begins_or_rests todo)
      by_agenda none jobless [] is other = (spared_itself n room free, quiet none)
      by_agenda none jobless (job ∷ later) is other = (begins_spared n room.agenda room refl jobless free, quiet none)

      by_over : room.reading ≡ None → room.jobs ≡ [] → (o : Option ℕ) → Goal (ends_or o (begins_or_rests room.agenda))
      by_over none jobless None other = by_agenda none jobless room.agenda refl other
      by_over none jobless (Some place) other = (ends_spared n place room other free, quiet none)

      by_waits : room.reading ≡ None → room.jobs ≡ [] → (o : Option ℕ) → Goal (frees_or o (ends_or (position is_over room.lines) (begins_or_rests room.agenda)))
      by_waits none jobless None other = by_over none jobless (position is_over room.lines) other
      by_waits none jobless (Some at) other = (frees_spared n at room free, quiet none)

      by_jobs : room.reading ≡ None → (js : List Job) → room.jobs ≡ js → Goal (if is_any js then next.Work else next_part room)
      by_jobs none [] is other = by_waits none is (position (is_released room) room.waits) other
      by_jobs none (job ∷ later) is other = (first_spares room.jobs host room refl other free, quiet none)

      by_moves : room.reading ≡ None → (o : Option ℕ) → Goal (moves_or o (if is_any room.jobs then next.Work else next_part room))
      by_moves none None other = by_jobs none room.jobs refl other
      by_moves none (Some place) other = (move_spares place host room other free, quiet none)

      by_reading : (o : Option ReadBatch) → room.reading ≡ o → Goal (next_of room)
      by_reading None is =
          subst (λ (o : Option ReadBatch). Goal (if is_some o then next.Read else moves_or (position has_move room.lines) (if is_any room.jobs then next.Work else next_part room))) (sym is)
          (by_moves is (position has_move room.lines))
      by_reading (Some r) is =
          subst (λ (o : Option ReadBatch). Goal (if is_some o then next.Read else moves_or (position has_move room.lines) (if is_any room.jobs then next.Work else next_part room))) (sym is)
          (λ other. (reads_spare room.reading host room other free, other))

find_first : {X : Type 0} (p : X → Bool) (xs : List X) → find p xs ≡ slice_get (filter p xs) 0
find_first p [] = refl
find_first p (x ∷ xs) = by_test (p x) (find_first p xs)
  where
    by_test : (b : Bool) → find p xs ≡ slice_get (filter p xs) 0 → cond b (Some x) (find p xs) ≡ slice_get (cond b (x ∷ filter p xs) (filter p xs)) 0
    by_test true later = refl
    by_test false later = later

-- the lines of the number are the same, and so is the one that is found
pub found_same : (n : ℕ) (before after : List Line) → lines_on n after ≡ lines_on n before → line_in n after ≡ line_in n before
found_same n before after is =
    line_in_is n after ∙ (find_first (is_n n) after ∙ (ap (λ (ls : List Line). slice_get ls 0) is ∙ sym (line_in_is n before ∙ find_first (is_n n) before)))

pub untouched_by : (n : ℕ) (before after : Room) → Spared n before after → is_read_of n before.reading ≡ false → IsUntouched n before after
untouched_by n before after s quiet = record {
  line = s.lines.found;
  found = found_same n before.lines after.lines s.lines.found;
  free = s.lines.free;
  sent = λ low. sym (seen_is n low after.hub.sent) ∙ (s.lines.sent ∙ seen_is n low before.hub.sent);
  jobs = s.jobs;
  reading = s.unread quiet ∙ sym quiet;
  moment = s.lines.moment;
}

pub untouched_itself : (n : ℕ) (room : Room) → Free n room → IsUntouched n room room
untouched_itself n room free = record { line = refl; found = refl; free = free; sent = λ low. refl; jobs = refl; reading = refl; moment = refl }

pub untouched_then : (n : ℕ) (a b c : Room) → IsUntouched n a b → IsUntouched n b c → IsUntouched n a c
untouched_then n a b c p q = record {
  line = q.line ∙ p.line;
  found = q.found ∙ p.found;
  free = q.free;
  sent = λ low. q.sent low ∙ p.sent low;
  jobs = q.jobs ∙ p.jobs;
  reading = q.reading ∙ p.reading;
  moment = q.moment ∙ p.moment;
}

pub each_leaves : {H : Type 0} (calling : Calling H) (plan : Plan) (n : ℕ) (b c : Both H) (ms : List Met) → WriteLogs calling → IsFree n b.room.lines
    → is_step_of n (next_of b.room) b.room ≡ false → Reaches (step calling plan (next_of b.room) b.host b.room) ms (ends c) → IsUntouched n b.room c.room
each_leaves {H} calling plan n b c ms logs free other reaches =
    let all = step_spares calling logs plan n b.host b.room free other in
    untouched_by n b.room c.room (all_reached (λ (e : Both H). Spared n b.room e.room) ms (step calling plan (next_of b.room) b.host b.room) c all.0 reaches) all.1

all_leave : {H : Type 0} (calling : Calling H) (plan : Plan) (n : ℕ) (b e : Both H) → WriteLogs calling → IsFree n b.room.lines → StepsOfOthers calling plan n b e → IsUntouched n b.room e.room
all_leave calling plan n _ _ logs free (no_step b) = untouched_itself n b.room free
all_leave calling plan n _ _ logs free (one_step b m e ms other reaches later) =
    let one : IsUntouched n b.room m.room = each_leaves calling plan n b m ms logs free other reaches in
    untouched_then n b.room m.room e.room one (all_leave calling plan n m e logs one.free later)

pub others_leave : (H : Type 0) → OthersLeaveTheLine H
others_leave H = record { each = each_leaves; all = all_leave }
