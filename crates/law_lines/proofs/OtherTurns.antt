-- Turns at the events of other lines leave a line without filters as it was.
use Rattle.std.proofs.Common.{◌≡◌, ℕ, zero, suc, ◌+◌, ◌==◌, Bool, true, false, ◌||◌, ◌&&◌, cond, List, [], ◌∷◌, ◌++◌, refl, ap, ◌∙◌, sym, subst, if◌then◌else◌}
use Rattle.std.specs.List.{list_any}
use Rattle.std.specs.Prelude.{Option, None, Some, is_some, slice_get, position, filter, find, nat_le}
use Rattle.callouts.specs.Callouts.{is_call_line, is_of_call, line_in as event_line}
use Rattle.contexts.specs.declared.parts.Context.{Context}
use Rattle.contexts.specs.declared.parts.Contexts.{Contexts}
use Rattle.contexts.specs.declared.parts.Plugin.{Plugin}
use Rattle.contexts.specs.Creating.{next_id}
use Rattle.contexts.specs.Reached.{vm_in}
use Rattle.filter_host.specs.Called.{Calling}
use Rattle.filter_host.specs.Course.{Course, ends, asks, measures, hears}
use Rattle.filter_host.proofs.Holds.{AllEnds, all_then, all_reached}
use Rattle.gate_io.specs.Events.{is_stop}
use Rattle.gate_io.specs.declared.event.Event.{Event}
use Rattle.gate_io.specs.declared.event.Sent.{Sent}
use Rattle.gate_io.specs.declared.event.Sent.TheVariants as to
use Rattle.gate_io.specs.declared.event.What.{What}
use Rattle.send_queue.specs.Joined.{are_one, as_one, neighbours, behind_all, joined_behind, join_neighbours}
use Rattle.worker_model.specs.Room.{Room}
use Rattle.worker_model.specs.declared.types.Job.{Job}
use Rattle.worker_model.specs.declared.types.Job.TheVariants as jobs
use Rattle.worker_model.specs.declared.types.Line.{Line}
use Rattle.worker_model.specs.declared.types.Next.{Next}
use Rattle.worker_model.specs.declared.types.Next.TheVariants as next
use Rattle.worker_model.specs.declared.types.ReadBatch.{ReadBatch}
use Rattle.worker_model.specs.Plan.{Plan}
use Rattle.worker_model.specs.Rooms.{next_of, next_part, has_move, moves_or, frees_or, ends_or, begins_or_rests, is_any, is_over, is_released}
use Rattle.worker_model.specs.Settling.{settling, settling_none, settling_rest, settling_step, is_rest}
use Rattle.worker_model.specs.Steps.{Both, is_late, step}
use Rattle.worker_model.specs.Turn.{is_of, roots_from, start_of, starts_of, vms_in, start_jobs, is_due_now, ticks_in, ticks_of, new_ticks_from, new_ticks_of, new_ticks, ticks_due, deadline_jobs, registers_at, notice_of, notices_of, calls_due, happening, agenda_of, at_moment, room_for_event, most_steps, Outcome, outcome_of, turned, turn_by, turn}
use Rattle.worker_model.proofs.Events.{by_event, by_due}
use Rattle.law_lines.specs.Isolation.{lines_on, IsFree, is_event_of, is_job_of, jobs_on, is_read_of, is_sent_on, sent_on, is_at, is_late_on, is_work_of, is_first_of, is_step_of, IsUntouched, IsAsBefore, TurnsOfOthersLeaveTheLine}
use Rattle.law_lines.specs.Logs.{WriteLogs}
use Rattle.law_lines.proofs.Finding.{Seeks, missing, first, seeks}
use Rattle.law_lines.proofs.Isolation.{step_spares, untouched_by, untouched_itself, untouched_then}
use Rattle.law_lines.proofs.Kept.{by_bool}
use Rattle.law_lines.proofs.Looks.{equal_by}
use Rattle.law_lines.proofs.OwnSteps.{never_moves}
use Rattle.law_lines.proofs.Spared.{Free, Spared, AllElse, else_none, else_join}
use Rattle.law_lines.proofs.Untouched.{not_both, free_at}

-- ---- the parts of a turn at an event that is not of the line

module _ (n : ℕ) where
  roots_else : (vm place : ℕ) (is_first : Bool) (plugins : List Plugin) → AllElse n (roots_from vm place is_first plugins)
  roots_else vm place is_first [] = tt
  roots_else vm place is_first (p ∷ plugins) =
      by_bool (AllElse n) (is_of vm p) (jobs.Root vm place is_first ∷ roots_from vm (place + 1) false plugins) (roots_from vm (place + 1) is_first plugins)
      (λ e. (refl, roots_else vm (place + 1) false plugins)) (λ e. roots_else vm (place + 1) is_first plugins)

  start_else : (vm : ℕ) (plugins : List Plugin) → AllElse n (start_of vm plugins)
  start_else vm plugins = by_bool (AllElse n) (list_any (is_of vm) plugins) (jobs.Begin vm ∷ roots_from vm 0 true plugins) [] (λ e. (refl, roots_else vm 0 true plugins)) (λ e. tt)

  starts_else : (k : ℕ) (plugins : List Plugin) → AllElse n (starts_of k plugins)
  starts_else zero plugins = tt
  starts_else (suc k) plugins = else_join n (starts_of k plugins) (start_of k plugins) (starts_else k plugins) (start_else k plugins)

  ticks_else : (now vm : ℕ) (contexts : List Context) → AllElse n (ticks_in now vm contexts)
  ticks_else now vm [] = tt
  ticks_else now vm (c ∷ contexts) =
      by_bool (AllElse n) (is_due_now now c.tick) (jobs.Tick vm c.id ∷ ticks_in now vm contexts) (ticks_in now vm contexts) (λ e. (refl, ticks_else now vm contexts)) (λ e. ticks_else now vm contexts)

  all_ticks_else : (now k : ℕ) (h : Contexts) → AllElse n (ticks_of now k h)
  all_ticks_else now zero h = tt
  all_ticks_else now (suc k) h = else_join n (ticks_of now k h) (ticks_in now k (vm_in h k).contexts) (all_ticks_else now k h) (ticks_else now k (vm_in h k).contexts)

  new_from_else : (vm id : ℕ) (plugins : List Plugin) → AllElse n (new_ticks_from vm id plugins)
  new_from_else vm id [] = tt
  new_from_else vm id (p ∷ plugins) =
      by_bool (AllElse n) (is_of vm p && nat_le id 4294967295) (jobs.Tick vm id ∷ new_ticks_from vm (id + 1) plugins) (new_ticks_from vm id plugins) (λ e. (refl, new_from_else vm (id + 1) plugins)) (λ e. new_from_else vm id plugins)

  new_ticks_else : (k : ℕ) (h : Contexts) → AllElse n (new_ticks_of k h)
  new_ticks_else zero h = tt
  new_ticks_else (suc k) h = else_join n (new_ticks_of k h) (new_ticks_from k (next_id h k) h.plugins) (new_ticks_else k h) (new_from_else k (next_id h k) h.plugins)

  due_ticks_else : (room : Room) → AllElse n (ticks_due room)
  due_ticks_else room =
      else_join n (ticks_of room.hub.moment (vms_in room) room.hub.contexts) (new_ticks room) (all_ticks_else room.hub.moment (vms_in room) room.hub.contexts)
      (by_bool (AllElse n) room.is_begun [] (new_ticks_of (vms_in room) room.hub.contexts) (λ e. tt) (λ e. new_ticks_else (vms_in room) room.hub.contexts))

  notices_else : (plan : Plan) (k : ℕ) → AllElse n (notices_of plan k)
  notices_else plan zero = tt
  notices_else plan (suc k) =
      else_join n (notices_of plan k) (notice_of plan k) (notices_else plan k) (by_bool (AllElse n) (registers_at (slice_get plan.registers k)) (jobs.Notice k 16 ∷ []) [] (λ e. (refl, tt)) (λ e. tt))

  -- where the event is of the line of a callout, nothing happens on the lines
  event_else : (what : What) (room : Room) → (is_of_call (event_line what) ≡ false → is_event_of n what ≡ false) → AllElse n (happening what room)
  event_else what room other = by_event (AllElse n) what room (λ e. (other e, tt)) (λ e. tt) (λ e. (refl, tt))

  calls_else : (room : Room) → AllElse n (calls_due room)
  calls_else room = by_due (AllElse n) room tt (λ id later e. (refl, e))

  pub agenda_else : (plan : Plan) (what : What) (room : Room) → (is_of_call (event_line what) ≡ false → is_event_of n what ≡ false) → AllElse n (agenda_of plan what room)
  agenda_else plan what room other =
      else_join n (start_jobs room) _ (by_bool (AllElse n) room.is_begun [] (starts_of (vms_in room) room.hub.contexts.plugins) (λ e. tt) (λ e. starts_else (vms_in room) room.hub.contexts.plugins))
      (else_join n (ticks_due room) _ (due_ticks_else room)
      (else_join n (deadline_jobs plan) _ (by_bool (AllElse n) (plan.deadline == 0) [] (jobs.Expire ∷ []) (λ e. tt) (λ e. (refl, tt)))
      (else_join n (calls_due room) _ (calls_else room)
      (else_join n (happening what room) (notices_of plan (vms_in room)) (event_else what room other) (notices_else plan (vms_in room))))))

-- ---- what is sent, with neighbours joined

abbrev NoneOn : ℕ → List Sent → Type 0
NoneOn n [] = Unit {0}
NoneOn n (s ∷ sent) = (is_sent_on n s ≡ false) × NoneOn n sent

to_none : (n : ℕ) (sent : List Sent) → sent_on n sent ≡ [] → NoneOn n sent
to_none n [] is = tt
to_none n (s ∷ sent) is = by_test (is_sent_on n s) is (to_none n sent)
  where
    by_test : (b : Bool) → cond b (s ∷ sent_on n sent) (sent_on n sent) ≡ [] → (sent_on n sent ≡ [] → NoneOn n sent) → (b ≡ false) × NoneOn n sent
    by_test true e more = absurd (cc)
    by_test false e more = (refl, more e)

from_none : (n : ℕ) (sent : List Sent) → NoneOn n sent → sent_on n sent ≡ []
from_none n [] none = refl
from_none n (s ∷ sent) none = ap (λ (b : Bool). cond b (s ∷ sent_on n sent) (sent_on n sent)) none.0 ∙ from_none n sent none.1

as_one_on : (n : ℕ) (a b : Sent) → is_sent_on n (as_one a b) ≡ is_sent_on n a
as_one_on n (to.Connect m) b = refl
as_one_on n (to.Bytes m side bytes) (to.Connect k) = refl
as_one_on n (to.Bytes m side bytes) (to.Bytes k s more) = refl
as_one_on n (to.Bytes m side bytes) (to.Close k s) = refl
as_one_on n (to.Bytes m side bytes) (to.Log level text) = refl
as_one_on n (to.Close m side) b = refl
as_one_on n (to.Log level text) b = refl

neighbours_none : (n : ℕ) (a b : Sent) → is_sent_on n a ≡ false → is_sent_on n b ≡ false → NoneOn n (neighbours a b)
neighbours_none n a b one two = by_bool (NoneOn n) (are_one a b) (as_one a b ∷ []) (a ∷ b ∷ []) (λ e. (as_one_on n a b ∙ one, tt)) (λ e. (one, (two, tt)))

behind_none : (n : ℕ) (a : Sent) (done : List Sent) (b : Sent) → NoneOn n (a ∷ done) → is_sent_on n b ≡ false → NoneOn n (behind_all a done b)
behind_none n a [] b none two = neighbours_none n a b none.0 two
behind_none n a (c ∷ done) b none two = (none.0, behind_none n c done b none.1 two)

joins_none : (n : ℕ) (done sent : List Sent) → NoneOn n done → NoneOn n sent → NoneOn n (joined_behind done sent)
joins_none n done [] one two = one
joins_none n [] (s ∷ sent) one two = joins_none n (s ∷ []) sent (two.0, tt) two.1
joins_none n (a ∷ done) (s ∷ sent) one two = joins_none n (behind_all a done s) sent (behind_none n a done s one two.0) two.1

joined_none : (n : ℕ) (sent : List Sent) → sent_on n sent ≡ [] → sent_on n (join_neighbours sent) ≡ []
joined_none n sent is = from_none n (join_neighbours sent) (joins_none n [] sent tt (to_none n sent is))

-- ---- nothing of the line is to be done

any_in : (p : Line → Bool) (n : ℕ) (lines : List Line) (k : ℕ) (l : Line) → slice_get lines k ≡ Some l → (l.number == n) ≡ true → p l ≡ true → list_any p (lines_on n lines) ≡ true
any_in p n [] k l at is passes = absurd (cc)
any_in p n (x ∷ xs) zero l at is passes =
    let here : x ≡ l = cc in
    ap (λ (b : Bool). list_any p (cond b (x ∷ lines_on n xs) (lines_on n xs))) (ap (λ (y : Line). y.number == n) here ∙ is) ∙ ap (λ (b : Bool). b || list_any p (lines_on n xs)) (ap p here ∙ passes)
any_in p n (x ∷ xs) (suc k) l at is passes = by_test (x.number == n) (any_in p n xs k l at is passes)
  where
    by_test : (b : Bool) → list_any p (lines_on n xs) ≡ true → list_any p (cond b (x ∷ lines_on n xs) (lines_on n xs)) ≡ true
    by_test true more = (λ i. p x || more i) ∙ or_true (p x)
      where
        or_true : (b : Bool) → (b || true) ≡ true
        or_true true = refl
        or_true false = refl
    by_test false more = more

pub record Idle (n : ℕ) (room : Room) : Type 0 where
  pub free : Free n room
  pub unread : is_read_of n room.reading ≡ false
  pub jobless : jobs_on n room ≡ []
  pub unended : list_any is_over (lines_on n room.lines) ≡ false
  pub in_time : is_late_on n room ≡ false

pub idle_then : (n : ℕ) (a b : Room) → Idle n a → IsUntouched n a b → Idle n b
idle_then n a b idle u = record {
  free = u.free;
  unread = u.reading ∙ idle.unread;
  jobless = u.jobs ∙ idle.jobless;
  unended = ap (list_any is_over) u.line ∙ idle.unended;
  in_time = (λ i. list_any (is_late (u.moment i)) (u.line i)) ∙ idle.in_time;
}

-- so the next step is not of it
pub idle_step : (n : ℕ) (room : Room) → Idle n room → is_step_of n (next_of room) room ≡ false
idle_step n room idle = by_reading (is_some room.reading)
  where
    Goal : Next → Type 0
    Goal x = is_step_of n x room ≡ false

    -- where a test holds of the line at a place, and of no line of the number
    away : (p : Line → Bool) (place : ℕ) → position p room.lines ≡ Some place → ((k : ℕ) (l : Line) → slice_get room.lines k ≡ Some l → (l.number == n) ≡ true → p l ≡ true → ⊥)
        → is_at n (slice_get room.lines place) ≡ false
    away p place is none = by_seek (seeks p room.lines)
      where
        by_test : (b : Bool) → (b ≡ true → ⊥) → b ≡ false
        by_test true denied = absurd (denied refl)
        by_test false denied = refl

        by_seek : Seeks p room.lines → is_at n (slice_get room.lines place) ≡ false
        by_seek (missing at gone) = let e : ◌≡◌ {A = Option ℕ} None (Some place) = sym at ∙ is in absurd (cc)
        by_seek (first k l at there passes found) =
            let e : Some k ≡ Some place = sym at ∙ is in
            let same : k ≡ place = cc in
            ap (is_at n) (sym (ap (slice_get room.lines) same) ∙ there) ∙ by_test (l.number == n) (λ of_n. none k l there of_n passes)

    by_agenda : (todo : List Job) → Goal (begins_or_rests todo)
    by_agenda [] = refl
    by_agenda (job ∷ later) = refl

    by_over : (o : Option ℕ) → position is_over room.lines ≡ o → Goal (ends_or o (begins_or_rests room.agenda))
    by_over None is = by_agenda room.agenda
    by_over (Some place) is = away is_over place is (λ k l at of_n over. not_both (list_any is_over (lines_on n room.lines)) (any_in is_over n room.lines k l at of_n over) idle.unended)

    by_waits : (o : Option ℕ) → Goal (frees_or o (ends_or (position is_over room.lines) (begins_or_rests room.agenda)))
    by_waits None = by_over (position is_over room.lines) refl
    by_waits (Some at) = refl

    work_else : (job : Job) → is_job_of n job ≡ false → is_work_of n room job ≡ false
    work_else (jobs.Begin vm) is = is
    work_else (jobs.Root vm plugin is_first) is = is
    work_else (jobs.Start vm root) is = is
    work_else (jobs.Configure vm root plugin) is = is
    work_else (jobs.Tick vm root) is = is
    work_else jobs.Expire is = idle.in_time
    work_else (jobs.Happen w) is = is
    work_else (jobs.Create m k) is = is
    work_else (jobs.Enter m) is = is
    work_else (jobs.Put m response batch) is = is
    work_else (jobs.Refuse m status) is = is
    work_else (jobs.Done c) is = is
    work_else (jobs.Log c) is = is
    work_else (jobs.Delete c) is = is
    work_else (jobs.Close m stays) is = is
    work_else (jobs.Notice vm left) is = is
    work_else (jobs.Ready vm root queue) is = is
    work_else (jobs.Other step) is = is

    first_else : (js : List Job) → filter (is_job_of n) (js ++ room.agenda) ≡ [] → is_first_of n room js ≡ false
    first_else [] is = refl
    first_else (job ∷ later) is = work_else job (by_test (is_job_of n job) is)
      where
        by_test : (b : Bool) → cond b (job ∷ filter (is_job_of n) (later ++ room.agenda)) (filter (is_job_of n) (later ++ room.agenda)) ≡ [] → b ≡ false
        by_test true e = absurd (cc)
        by_test false e = refl

    by_jobs : (b : Bool) → Goal (if b then next.Work else next_part room)
    by_jobs true = first_else room.jobs idle.jobless
    by_jobs false = by_waits (position (is_released room) room.waits)

    by_moves : (o : Option ℕ) → position has_move room.lines ≡ o → Goal (moves_or o (if is_any room.jobs then next.Work else next_part room))
    by_moves None is = by_jobs (is_any room.jobs)
    by_moves (Some place) is = away has_move place is (λ k l at of_n moving. not_both (has_move l) moving (never_moves l.exchange (free_at n room.lines k l at idle.free (equal_by l.number n of_n))))

    by_reading : (b : Bool) → Goal (if b then next.Read else moves_or (position has_move room.lines) (if is_any room.jobs then next.Work else next_part room))
    by_reading true = idle.unread
    by_reading false = by_moves (position has_move room.lines) refl

-- ---- a room at rest

record Rests (room : Room) : Type 0 where
  reading : room.reading ≡ None
  over : position is_over room.lines ≡ None
  jobs : room.jobs ≡ []

at_rest : (room : Room) → next_of room ≡ next.Rest → Rests room
at_rest room = by_reading room.reading refl
  where
    Goal : Next → Type 0
    Goal x = x ≡ next.Rest → Rests room

    by_over : room.reading ≡ None → room.jobs ≡ [] → (o : Option ℕ) → position is_over room.lines ≡ o → Goal (ends_or o (begins_or_rests room.agenda))
    by_over none jobless None is = λ e. record { reading = none; over = is; jobs = jobless }
    by_over none jobless (Some place) is = λ e. absurd (cc)

    by_waits : room.reading ≡ None → room.jobs ≡ [] → (o : Option ℕ) → Goal (frees_or o (ends_or (position is_over room.lines) (begins_or_rests room.agenda)))
    by_waits none jobless None = by_over none jobless (position is_over room.lines) refl
    by_waits none jobless (Some at) = λ e. absurd (cc)

    by_jobs : room.reading ≡ None → (js : List Job) → room.jobs ≡ js → Goal (if is_any js then next.Work else next_part room)
    by_jobs none [] is = by_waits none is (position (is_released room) room.waits)
    by_jobs none (job ∷ later) is = λ e. absurd (cc)

    by_moves : room.reading ≡ None → (o : Option ℕ) → Goal (moves_or o (if is_any room.jobs then next.Work else next_part room))
    by_moves none None = by_jobs none room.jobs refl
    by_moves none (Some place) = λ e. absurd (cc)

    by_reading : (o : Option ReadBatch) → room.reading ≡ o → Goal (next_of room)
    by_reading None is =
        subst (λ (o : Option ReadBatch). Goal (if is_some o then next.Read else moves_or (position has_move room.lines) (if is_any room.jobs then next.Work else next_part room))) (sym is)
        (by_moves is (position has_move room.lines))
    by_reading (Some r) is =
        subst (λ (o : Option ReadBatch). Goal (if is_some o then next.Read else moves_or (position has_move room.lines) (if is_any room.jobs then next.Work else next_part room))) (sym is) (λ e. absurd (cc))

-- no line passes a test, and so none of a number does
none_of : (p : Line → Bool) (n : ℕ) (lines : List Line) → find p lines ≡ None → list_any p (lines_on n lines) ≡ false
none_of p n [] none = refl
none_of p n (x ∷ xs) none = by_test (p x) refl none (none_of p n xs)
  where
    by_number : p x ≡ false → (b : Bool) → list_any p (lines_on n xs) ≡ false → list_any p (cond b (x ∷ lines_on n xs) (lines_on n xs)) ≡ false
    by_number is true more = (λ i. is i || more i)
    by_number is false more = more

    by_test : (b : Bool) → p x ≡ b → cond b (Some x) (find p xs) ≡ None → (find p xs ≡ None → list_any p (lines_on n xs) ≡ false) → list_any p (cond (x.number == n) (x ∷ lines_on n xs) (lines_on n xs)) ≡ false
    by_test true is e more = absurd (cc)
    by_test false is e more = by_number is (x.number == n) (more e)

nowhere : (p : Line → Bool) (lines : List Line) → position p lines ≡ None → find p lines ≡ None
nowhere p lines is = by_seek (seeks p lines)
  where
    by_seek : Seeks p lines → find p lines ≡ None
    by_seek (missing at none) = none
    by_seek (first k x at there passes found) = let e : ◌≡◌ {A = Option ℕ} None (Some k) = sym is ∙ at in absurd (cc)

facing_idle : (n : ℕ) (plan : Plan) (event : Event) (room : Room) → IsFree n room.lines → Rests room → is_event_of n event.what ≡ false → is_late_on n (at_moment event.now room) ≡ false
    → Idle n (room_for_event plan event room)
facing_idle n plan event room free r other in_time = record {
  free = free;
  unread = ap (is_read_of n) r.reading;
  jobless =
      ap (λ (js : List Job). filter (is_job_of n) (js ++ agenda_of plan event.what (at_moment event.now room))) r.jobs
      ∙ else_none n (agenda_of plan event.what (at_moment event.now room)) (agenda_else n plan event.what (at_moment event.now room) (λ e. other));
  unended = none_of is_over n room.lines (nowhere is_over room.lines r.over);
  in_time = in_time;
}

-- ---- all steps of a turn

module _ {H : Type 0} (calling : Calling H) (logs : WriteLogs calling) (plan : Plan) (n : ℕ) where
  abbrev Leaves : Room → Course (Both H) → Type 0
  Leaves room course = AllEnds (λ (b : Both H). IsUntouched n room b.room) course

  spared_leaves : (room : Room) → is_read_of n room.reading ≡ false → (p : Course (Both H)) → AllEnds (λ (b : Both H). Spared n room b.room) p → Leaves room p
  spared_leaves room quiet (ends b) all = untouched_by n room b.room all quiet
  spared_leaves room quiet (asks vm call k) all = λ r. spared_leaves room quiet (k r) (all r)
  spared_leaves room quiet (measures vm call k) all = λ r. spared_leaves room quiet (k r) (all r)
  spared_leaves room quiet (hears t k) all = λ h is. spared_leaves room quiet (k h) (all h is)

  leaves_first : (a b : Room) (p : Course (Both H)) → IsUntouched n a b → Leaves b p → Leaves a p
  leaves_first a b (ends c) one all = untouched_then n a b c.room one all
  leaves_first a b (asks vm call k) one all = λ r. leaves_first a b (k r) one (all r)
  leaves_first a b (measures vm call k) one all = λ r. leaves_first a b (k r) one (all r)
  leaves_first a b (hears t k) one all = λ h is. leaves_first a b (k h) one (all h is)

  settles : (k : ℕ) (host : H) (room : Room) → Idle n room → Leaves room (settling calling plan k host room)
  settles zero host room idle = subst (Leaves room) (sym (settling_none calling plan host room)) (untouched_itself n room idle.free)
  settles (suc k) host room idle = by_rest (λ h r i. settles k h r i) (is_rest (next_of room)) refl
    where
      by_rest : ((h : H) (r : Room) → Idle n r → Leaves r (settling calling plan k h r)) → (b : Bool) → is_rest (next_of room) ≡ b → Leaves room (settling calling plan (suc k) host room)
      by_rest go true is = subst (Leaves room) (sym (settling_rest calling plan k (next_of room) host room refl is)) (untouched_itself n room idle.free)
      by_rest go false is =
          let all = step_spares calling logs plan n host room idle.free (idle_step n room idle) in
          subst (Leaves room) (sym (settling_step calling plan k (next_of room) host room refl is))
          (all_then (λ (b : Both H). IsUntouched n room b.room) (λ (b : Both H). IsUntouched n room b.room) (step calling plan (next_of room) host room) (λ b. settling calling plan k b.host b.room)
          (spared_leaves room all.1 (step calling plan (next_of room) host room) all.0)
          (λ b u. leaves_first room b.room (settling calling plan k b.host b.room) u (go b.host b.room (idle_then n room b.room idle u))))

  -- what is said of a turn
  abbrev LeavesSo : Both H → Outcome H → Type 0
  LeavesSo state out = IsAsBefore n state.room out.state.room × (is_call_line n ≡ false → sent_on n out.sent ≡ [])

  turned_leaves : (state : Both H) (event : Event) → IsFree n state.room.lines → next_of state.room ≡ next.Rest → sent_on n state.room.hub.sent ≡ [] → is_event_of n event.what ≡ false
      → is_late_on n (at_moment event.now state.room) ≡ false → AllEnds (LeavesSo state) (turned calling plan state event)
  turned_leaves state event free is unsent other in_time =
      let start : Room = room_for_event plan event state.room in
      all_then (λ (b : Both H). IsUntouched n start b.room) (LeavesSo state) (settling calling plan most_steps state.host start) (λ b. ends (outcome_of b))
      (settles most_steps state.host start (facing_idle n plan event state.room free (at_rest state.room is) other in_time))
      (λ b u. (record { line = u.line; found = u.found; free = u.free }, (λ low. joined_none n b.room.hub.sent (u.sent low ∙ unsent))))

  turn_leaves : (stop : Bool) (state : Both H) (event : Event) → IsFree n state.room.lines → next_of state.room ≡ next.Rest → sent_on n state.room.hub.sent ≡ [] → is_event_of n event.what ≡ false
      → is_late_on n (at_moment event.now state.room) ≡ false → AllEnds (LeavesSo state) (turn_by calling plan stop state event)
  turn_leaves true state event free is unsent other in_time = (record { line = refl; found = refl; free = free }, (λ low. refl))
  turn_leaves false state event free is unsent other in_time = turned_leaves state event free is unsent other in_time

pub turns_leave : (H : Type 0) → TurnsOfOthersLeaveTheLine H
turns_leave H calling plan n state event ms out logs free is unsent other in_time reaches =
    all_reached (λ (o : Outcome H). IsAsBefore n state.room o.state.room × (is_call_line n ≡ false → sent_on n o.sent ≡ [])) ms (turn calling plan state event) out
    (turn_leaves calling logs plan n (is_stop event.what) state event free is unsent other in_time) reaches
