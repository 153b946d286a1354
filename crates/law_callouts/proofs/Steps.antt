-- A step of a worker that is not about the callout of an id leaves that as it is, and tells nobody of it.
use Rattle.std.proofs.Common.{◌≡◌, ◌-◌, ◌==◌, ◌⊎◌, inl, inr, ℕ, Bool, true, false, not, ◌||◌, ◌&&◌, List, [], ◌∷◌, ◌++◌, refl, sym, ap, ◌∙◌, subst, ne_eqb, eq-eqb, arith}
use Rattle.std.specs.Prelude.{Option, None, Some, nat_lt, slice_get, if◌then◌else◌, is_some, position}
use Rattle.callouts.specs.Callouts.{callout_in, callout_at, line_in, first_line, comes_of, reads, fails, nothing, Coming, with_reading, AfterRead, goes_on, waits, answers, breaks, after_heard as after_part_heard}
use Rattle.callouts.specs.Steps.{after_event_of, after_coming, callout_after, next_after, put_callout}
use Rattle.callouts.specs.declared.types.Callout.{Callout}
use Rattle.callouts.specs.declared.types.CallStep.{CallStep}
use Rattle.callouts.specs.declared.types.CallStep.TheVariants as steps
use Rattle.contexts.specs.declared.parts.CallAnswer.{CallAnswer}
use Rattle.contexts.specs.declared.parts.Calls.{Calls}
use Rattle.contexts.specs.declared.parts.Contexts.{Contexts}
use Rattle.filter_host.proofs.Holds.{AllEnds, all_then}
use Rattle.filter_host.specs.Called.{Called, Calling}
use Rattle.filter_host.specs.Course.{Course, ends, asks, measures, hears, runs_then}
use Rattle.filter_host.specs.Heard.{Heard}
use Rattle.filter_host.specs.declared.host.Callback.{Callback}
use Rattle.filter_host.specs.declared.host.Callback.TheVariants as callbacks
use Rattle.filter_host.specs.declared.host.Death.TheVariants as deaths
use Rattle.filter_chain.specs.declared.item.AskKind.{AskKind}
use Rattle.filter_chain.specs.declared.item.AskKind.TheVariants as kinds
use Rattle.exchange.specs.declared.types.Hub.{Hub}
use Rattle.gate_io.specs.declared.event.What.{What}
use Rattle.h1_model.specs.Unread.{Reading}
use Rattle.store_model.specs.Program.{Program, done, ask, measure}
use Rattle.law_flow.specs.Dying.{Callee, step_callee, first_callee, job_callee, made_callee, ticked_callee, ready_callee, live_callee, call_callee, ended_callee, asked_callee}
use Rattle.law_turns.specs.Tables.{number_of as place_of}
use Rattle.worker_model.specs.Calls.{call_job, with_call_step, take_after, take_call_event, take_call_heard, close_call, has_listener, answer_if, put_call_answer}
use Rattle.worker_model.specs.Moves.{asks_at}
use Rattle.worker_model.specs.Plan.{Plan}
use Rattle.worker_model.specs.Room.{Room}
use Rattle.worker_model.specs.Rooms.{is_dead, next_of, next_part, is_any, moves_or, frees_or, ends_or, begins_or_rests, has_move, is_released, is_over, with_lines, take_callback_end, value_of_end}
use Rattle.worker_model.specs.Settling.{is_rest}
use Rattle.worker_model.specs.Steps.{Both, both, Answered, callback_result, Then, continue_with, called_in, called_live, calls_live, apply_stage_action, moved, moved_with, tells, made_with, ticks_with, tells_ready, notice_step, reads_call, drop_answer, tells_call, ends_call, works_call, works_other, works, works_first, reads_in, reads_next, reading_on, nothing_more, unless_zero, finish_context, delete_context, create_root, create_context, tick_root, may_stream, callback_of, number_of, vm_length, plugin_length, run_silent_job, begin_first_job, step}
use Rattle.worker_model.specs.declared.types.Asked.{Asked}
use Rattle.worker_model.specs.declared.types.Job.{Job}
use Rattle.worker_model.specs.declared.types.Job.TheVariants as jobs
use Rattle.worker_model.specs.declared.types.Line.{Line}
use Rattle.worker_model.specs.declared.types.NewContext.{NewContext}
use Rattle.worker_model.specs.declared.types.Next.{Next}
use Rattle.worker_model.specs.declared.types.Next.TheVariants as next
use Rattle.worker_model.specs.declared.types.OtherStep.{OtherStep}
use Rattle.worker_model.specs.declared.types.OtherStep.TheVariants as others
use Rattle.worker_model.specs.declared.types.Owner.{Owner}
use Rattle.worker_model.specs.declared.types.Owner.TheVariants as owns
use Rattle.worker_model.specs.declared.types.ReadBatch.{ReadBatch}
use Rattle.law_callouts.specs.Ends.{AllOf, KeepsCounts, report_by}
use Rattle.law_callouts.specs.Sound.{AreSound}
use Rattle.law_callouts.proofs.About.{is_at, is_about, about_step, about_job, about, pend}
use Rattle.law_callouts.proofs.Rooms.{HasCalls, has_calls, InThird, in_asks_at, to_lines, KeepsThen, nothing_keeps, unless_zero_keeps, done_keeps, deletes_keeps, to_answer, answer_keeps_none, acts_on_keeps, StandsThere, to_root, to_stream, StandsDue, to_tick, to_notice, to_heard, to_quietly, to_ends_at, to_frees}
use Rattle.law_callouts.proofs.Sound.{heard_id, found_id, put_sound}
use Rattle.law_callouts.proofs.Staying.{Stays, here, still, then_stays, ended_stays, close_other, put_other}

-- ---- which steps are not about it

abbrev pub Usual : ℕ → Next → List Job → Type 0
Usual id next.Read js = Unit {0}
Usual id (next.Move place) js = Unit {0}
Usual id next.Work [] = Unit {0}
Usual id next.Work (job ∷ later) = about_job id job ≡ []
Usual id (next.Free at) js = Unit {0}
Usual id (next.End place) js = Unit {0}
Usual id next.Begin js = Unit {0}
Usual id next.Rest js = Unit {0}

-- the others
pub record Special (id : ℕ) (nx : Next) (js : List Job) : Type 0 where
  pub doing : CallStep
  pub later : List Job
  pub works : nx ≡ next.Work
  pub first : js ≡ call_job doing ∷ later
  pub about_it : is_about id doing ≡ true

pub sort : (id : ℕ) (nx : Next) (js : List Job) → Usual id nx js ⊎ Special id nx js
sort id next.Read js = inl tt
sort id (next.Move place) js = inl tt
sort id next.Work [] = inl tt
sort id next.Work (jobs.Begin vm ∷ later) = inl refl
sort id next.Work (jobs.Root vm plugin first ∷ later) = inl refl
sort id next.Work (jobs.Start vm root ∷ later) = inl refl
sort id next.Work (jobs.Configure vm root plugin ∷ later) = inl refl
sort id next.Work (jobs.Tick vm root ∷ later) = inl refl
sort id next.Work (jobs.Expire ∷ later) = inl refl
sort id next.Work (jobs.Happen what ∷ later) = inl refl
sort id next.Work (jobs.Create number k ∷ later) = inl refl
sort id next.Work (jobs.Enter number ∷ later) = inl refl
sort id next.Work (jobs.Put number response list ∷ later) = inl refl
sort id next.Work (jobs.Refuse number status ∷ later) = inl refl
sort id next.Work (jobs.Done c ∷ later) = inl refl
sort id next.Work (jobs.Log c ∷ later) = inl refl
sort id next.Work (jobs.Delete c ∷ later) = inl refl
sort id next.Work (jobs.Close number stays ∷ later) = inl refl
sort id next.Work (jobs.Notice vm left ∷ later) = inl refl
sort id next.Work (jobs.Ready vm root queue ∷ later) = inl refl
sort id next.Work (jobs.Other (others.Tcp s) ∷ later) = inl refl
sort id next.Work (jobs.Other (others.Call s) ∷ later) = by (is_about id s) refl
  where
    by : (b : Bool) → is_about id s ≡ b → Usual id next.Work (jobs.Other (others.Call s) ∷ later) ⊎ Special id next.Work (jobs.Other (others.Call s) ∷ later)
    by true is = inr (record { doing = s; later = later; works = refl; first = refl; about_it = is })
    by false is = inl (ap (λ (t : Bool). if t then s ∷ [] else []) is)
sort id (next.Free at) js = inl tt
sort id (next.End place) js = inl tt
sort id next.Begin js = inl tt
sort id next.Rest js = inl tt

-- a step of which nothing is about it
pub not_about : (id : ℕ) (s : CallStep) → about_step id s ≡ [] → is_about id s ≡ false
not_about id s none = by (is_about id s) none
  where
    by : (b : Bool) → (if b then s ∷ [] else []) ≡ [] → b ≡ false
    by true none = absurd (cc)
    by false none = refl

other_id : (n id : ℕ) → (n == id) ≡ false → n ≡ id → ⊥
other_id n id other same =
    let one : ◌≡◌ {A = Bool} true false = sym (eq-eqb n id same) ∙ other in absurd (cc)

-- ---- what is next

-- at rest nothing is in hand and nothing is to come
pub rests_empty : (room : Room) → is_rest (next_of room) ≡ true → (room.jobs ≡ []) × (room.agenda ≡ [])
rests_empty room is = by (is_some room.reading) (position has_move room.lines) room.jobs (position (is_released room) room.waits) (position is_over room.lines) room.agenda is
  where
    by : (r : Bool) (m : Option ℕ) (js : List Job) (f en : Option ℕ) (agenda : List Job)
        → is_rest (if r then next.Read else moves_or m (if is_any js then next.Work else frees_or f (ends_or en (begins_or_rests agenda)))) ≡ true → (js ≡ []) × (agenda ≡ [])
    by true m js f en agenda is = absurd (cc)
    by false (Some place) js f en agenda is = absurd (cc)
    by false None (job ∷ js) f en agenda is = absurd (cc)
    by false None [] (Some at) en agenda is = absurd (cc)
    by false None [] None (Some place) agenda is = absurd (cc)
    by false None [] None None (job ∷ agenda) is = absurd (cc)
    by false None [] None None [] is = (refl, refl)

-- where a part of the turn begins nothing is in hand
begins_empty : (room : Room) → next_of room ≡ next.Begin → room.jobs ≡ []
begins_empty room is = by (is_some room.reading) (position has_move room.lines) room.jobs is
  where
    by : (r : Bool) (m : Option ℕ) (js : List Job) → (if r then next.Read else moves_or m (if is_any js then next.Work else next_part room)) ≡ next.Begin → js ≡ []
    by true m js is = absurd (cc)
    by false (Some place) js is = absurd (cc)
    by false None (job ∷ js) is = absurd (cc)
    by false None [] is = refl

begun_stays : (id : ℕ) (parts : List Job) (room : Room) → room.jobs ≡ [] → room.agenda ≡ parts → AreSound room → Stays id room (begin_first_job parts room)
begun_stays id [] room none is sound = here id room sound
begun_stays id (job ∷ later) room none is sound =
    let joined : about id (room.jobs ++ room.agenda) ≡ about id ([] ++ (job ∷ later)) = ap (λ (js : List Job). about id (js ++ room.agenda)) none ∙ ap (λ (js : List Job). about id js) is in
    still id room (record room { jobs = job ∷ []; agenda = later }) sound ((refl, refl), refl, sym joined)

-- the first job is taken in hand
pub taken_stays : (id : ℕ) (job : Job) (later : List Job) (room : Room) → room.jobs ≡ job ∷ later → about_job id job ≡ [] → AreSound room → Stays id room (record room { jobs = later })
taken_stays id job later room is none sound =
    let joined : about id (room.jobs ++ room.agenda) ≡ about_job id job ++ about id (later ++ room.agenda) = ap (λ (js : List Job). about id (js ++ room.agenda)) is in
    still id room (record room { jobs = later }) sound ((refl, refl), refl, sym (joined ∙ ap (λ (l : List CallStep). l ++ about id (later ++ room.agenda)) none))

-- ---- steps of other callouts

-- what comes next is about that callout alone
next_stays : (id n : ℕ) (o : Option CallStep) (room : Room) → ((s : CallStep) → o ≡ Some s → is_about id s ≡ false) → AreSound room → Stays id room (with_call_step o room)
next_stays id n None room other sound = here id room sound
next_stays id n (Some s) room other sound =
    still id room (with_call_step (Some s) room) sound
    ((refl, refl), refl, ap (λ (b : Bool). (if b then s ∷ [] else []) ++ about id (room.jobs ++ room.agenda)) (other s refl))

put_stays : (id n : ℕ) (c : Callout) (room : Room) → c.id ≡ n → (n ≡ id → ⊥) → AreSound (record room { calls = put_callout n c room.calls }) → Stays id room (record room { calls = put_callout n c room.calls })
put_stays id n c room same other sound = record {
  sound = sound;
  drawn = omega arith;
  same = λ low. put_other id n c room.calls same other;
  begins = λ high low. absurd (omega (arith, high, low));
  pending = refl;
  moment = refl;
}

after_stays : (id n : ℕ) (c : Callout) (o : Option CallStep) (room : Room) → c.id ≡ n → (n ≡ id → ⊥) → ((s : CallStep) → o ≡ Some s → is_about id s ≡ false) → AreSound (record room { calls = put_callout n c room.calls })
    → Stays id room (with_call_step o (record room { calls = put_callout n c room.calls }))
after_stays id n c o room same other not_it sound =
    let mid : Room = record room { calls = put_callout n c room.calls } in
    then_stays id room mid _ (put_stays id n c room same other sound) (next_stays id n o mid not_it sound)

-- of one step alone
only : (id : ℕ) (t : CallStep) → is_about id t ≡ false → (s : CallStep) → Some t ≡ Some s → is_about id s ≡ false
only id t other s is = let one : t ≡ s = (cc) in subst (λ (x : CallStep). is_about id x ≡ false) one other

-- something comes of the line of another
comes_stays : (id : ℕ) (what : What) (o : Option Callout) (room : Room) → ((c : Callout) → o ≡ Some c → c.id ≡ id → ⊥) → AreSound room → Stays id room (take_after (after_event_of o what room.calls) room)
comes_stays id what None room other sound = still id room _ sound ((refl, refl), refl, refl)
comes_stays id what (Some c) room other sound = by (comes_of what c.reader)
  where
    away : (c.id == id) ≡ false
    away = ne_eqb c.id id (other c refl)

    by : (coming : Coming) → Stays id room (take_after (after_coming c coming room.calls) room)
    by (reads r) =
        after_stays id c.id (with_reading r c) (Some (steps.Read c.id)) room refl (other c refl) (only id (steps.Read c.id) away) (put_sound c.id (with_reading r c) room refl sound)
    by fails =
        let mid : Room = record room { calls = room.calls } in
        let one : Stays id room mid = still id room mid sound ((refl, refl), refl, refl) in
        then_stays id room mid _ one (next_stays id c.id (Some (steps.Fail c.id)) mid (only id (steps.Fail c.id) away) one.sound)
    by nothing = still id room _ sound ((refl, refl), refl, refl)

-- the one that is found on another line is another
at_other : (id : ℕ) (l : Option ℕ) (calls : List Callout) → is_at id l ≡ false → (c : Callout) → callout_at l calls ≡ Some c → c.id ≡ id → ⊥
at_other id None calls away c is same = absurd (cc)
at_other id (Some line) calls away c is same = other_id (line - first_line) id away (sym (found_id (line - first_line) calls c is) ∙ same)

comes_other : (id : ℕ) (what : What) (room : Room) → is_about id (steps.Comes what) ≡ false → AreSound room → Stays id room (take_call_event what room)
comes_other id what room away sound = comes_stays id what (callout_at (line_in what) room.calls) room (at_other id (line_in what) room.calls away) sound

-- the reader of another says something
next_other : (id n : ℕ) (a : AfterRead) → (n == id) ≡ false → (s : CallStep) → next_after n a ≡ Some s → is_about id s ≡ false
next_other id n (goes_on c) away s is = only id (steps.Read n) away s is
next_other id n (waits c) away s is = absurd (cc)
next_other id n (answers c) away s is = only id (steps.Answer n) away s is
next_other id n (breaks c) away s is = only id (steps.Fail n) away s is

hears_other : (id n : ℕ) (c : Callout) (h : Heard) (room : Room) → (n == id) ≡ false → callout_in n room.calls ≡ Some c → AreSound room → Stays id room (take_call_heard n c h room)
hears_other id n c h room away is sound =
    let same : (callout_after (after_part_heard h c)).id ≡ n = heard_id h c ∙ found_id n room.calls c is in
    after_stays id n (callout_after (after_part_heard h c)) (next_after n (after_part_heard h c)) room same (other_id n id away) (next_other id n (after_part_heard h c) away)
    (put_sound n (callout_after (after_part_heard h c)) room same sound)

-- ---- ends of courses

pub of_if : {A : Type 0} (P : A → Type 0) (b : Bool) (x y : A) → (b ≡ true → P x) → (b ≡ false → P y) → P (if b then x else y)
of_if P true x y one two = one refl
of_if P false x y one two = two refl

all_map : {A : Type 0} (P Q : A → Type 0) (p : Course A) → ((a : A) → P a → Q a) → AllEnds P p → AllEnds Q p
all_map P Q (ends a) f all = f a all
all_map P Q (asks vm call k) f all = λ r. all_map P Q (k r) f (all r)
all_map P Q (measures vm call k) f all = λ r. all_map P Q (k r) f (all r)
all_map P Q (hears t k) f all = λ h is. all_map P Q (k h) f (all h is)

pub runs_so : {A B : Type 0} (P : A → Type 0) (Q : B → Type 0) (p : Program A) (f : A → Course B) → AllOf P p → ((a : A) → P a → AllEnds Q (f a)) → AllEnds Q (runs_then p f)
runs_so P Q (done a) f all more = more a all
runs_so P Q (ask vm call k) f all more = λ r. runs_so P Q (k r) f (all r) more
runs_so P Q (measure vm asked k) f all more = λ r. runs_so P Q (k r) f (all r) more

-- machines that are good stay good, and leave the counts
pub record KeepsGood {H : Type 0} (calling : Calling H) (IsGood : H → Type 0) : Type 0 where
  pub keeps : (host : H) (vm : ℕ) (name : Callback) (context first second now : ℕ) (h : Contexts) → IsGood host
      → AllOf (λ (c : Called H). IsGood c.host × (c.contexts.calls ≡ h.calls)) (calling host vm name context first second now h)

all_of : {A : Type 0} (P Q : A → Type 0) (p : Program A) → ((a : A) → P a → Q a) → AllOf P p → AllOf Q p
all_of P Q (done a) f all = f a all
all_of P Q (ask vm call k) f all = λ r. all_of P Q (k r) f (all r)
all_of P Q (measure vm asked k) f all = λ r. all_of P Q (k r) f (all r)

-- any machines, where nothing more is asked of them
abbrev pub Any : {H : Type 0} → H → Type 0
Any host = Unit {0}

pub any_good : {H : Type 0} (calling : Calling H) → KeepsCounts calling → KeepsGood calling Any
any_good calling kept = record {
  keeps = λ host vm name context first second now h good.
      all_of (λ (c : Called _). c.contexts.calls ≡ h.calls) (λ (c : Called _). Unit {0} × (c.contexts.calls ≡ h.calls)) (calling host vm name context first second now h) (λ c left. (tt, left))
      (kept.keeps host vm name context first second now h);
}

-- the machines are good, and this stays
abbrev pub Fine : {H : Type 0} → (H → Type 0) → ℕ → Room → Both H → Type 0
Fine IsGood id old b = IsGood b.host × Stays id old b.room

module _ {H : Type 0} (calling : Calling H) (IsGood : H → Type 0) (kept : KeepsGood calling IsGood) (plan : Plan) (id : ℕ) where
  abbrev pub Does : Room → Course (Both H) → Type 0
  Does old c = AllEnds (Fine IsGood id old) c

  abbrev DoesAnswer : Room → Course (Answered H) → Type 0
  DoesAnswer old c = AllEnds (λ (a : Answered H). Fine IsGood id old a.both) c

  after_change : (old mid : Room) (c : Course (Both H)) → Stays id old mid → Does mid c → Does old c
  after_change old mid c stays does = all_map (Fine IsGood id mid) (Fine IsGood id old) c (λ b fine. (fine.0, then_stays id old mid b.room stays fine.1)) does

  called_so : (vm : ℕ) (name : Callback) (context first second : ℕ) (own : Owner) (host : H) (room : Room) → IsGood host → AreSound room → DoesAnswer room (called_in calling vm name context first second own host room)
  called_so vm name context first second own host room good sound =
      runs_so (λ (c : Called H). IsGood c.host × (c.contexts.calls ≡ room.hub.contexts.calls)) (λ (a : Answered H). Fine IsGood id room a.both)
      (calling host vm name context first second room.hub.moment room.hub.contexts)
      (λ c. ends (callback_result (value_of_end c.end) (both c.host (take_callback_end vm own c.end c.lines c.contexts room))))
      (kept.keeps host vm name context first second room.hub.moment room.hub.contexts good)
      (λ c left. (left.0, ended_stays id vm own c.end c.lines c.contexts room left.1 sound))

  -- what comes after a callback keeps all of it
  abbrev pub Behind : Then → Type 0
  Behind behind = (T : ℕ) (K : List Callout) (N : Calls) (P : List CallStep) → KeepsThen id T K N P behind

  behind_stays : (behind : Then) → Behind behind → (old : Room) (a : Answered H) → Fine IsGood id old a.both → Fine IsGood id old (continue_with behind a)
  behind_stays behind keeps old a fine = (
    fine.0,
    then_stays id old a.both.room _ fine.1
        (still id a.both.room _ fine.1.sound (keeps a.both.room.hub.moment a.both.room.calls a.both.room.hub.contexts.calls (pend id a.both.room) a.value a.both.room ((refl, refl), refl, refl))),
  )

  pub live_so : (vm : ℕ) (name : Callback) (context first second : ℕ) (behind : Then) (host : H) (room : Room) → Behind behind → IsGood host → AreSound room → Does room (calls_live calling vm name context first second behind host room)
  live_so vm name context first second behind host room keeps good sound =
      all_then (λ (a : Answered H). Fine IsGood id room a.both) (Fine IsGood id room) (called_live calling vm name context first second host room) (λ a. ends (continue_with behind a))
      (of_if (λ (c : Course (Answered H)). DoesAnswer room c) (is_dead vm room) (ends (callback_result None (both host room))) (called_in calling vm name context first second owns.Nobody host room)
      (λ is. (good, here id room sound)) (λ is. called_so vm name context first second owns.Nobody host room good sound))
      (λ a fine. behind_stays behind keeps room a fine)

  tells_so : (vm : ℕ) (name : Callback) (context first : ℕ) (host : H) (room : Room) → IsGood host → AreSound room → Does room (tells calling vm name context first host room)
  tells_so vm name context first host room good sound = live_so vm name context first 0 nothing_more host room (λ T K N P. nothing_keeps id T K N P) good sound

  moved_so : (a : Option Asked) (host : H) (room : Room) → IsGood host → AreSound room → Does room (moved calling a host room)
  moved_so None host room good sound = (good, here id room sound)
  moved_so (Some a) host room good sound =
      all_then (λ (r : Answered H). Fine IsGood id room r.both) (Fine IsGood id room)
      (called_in calling a.vm (callback_of a.response a.ask.kind) a.context a.count (number_of a.ask.end) (owns.Stage a.context a.response) host room) (λ b. ends (continue_with (apply_stage_action a) b))
      (called_so a.vm (callback_of a.response a.ask.kind) a.context a.count (number_of a.ask.end) (owns.Stage a.context a.response) host room good sound)
      (λ r fine. behind_stays (apply_stage_action a) (λ T K N P. acts_on_keeps id T K N P a) room r fine)

  moves_so : (host : H) (room : Room) (r : Option Asked × List Line × Hub) → InThird (HasCalls room.hub.contexts.calls) room.hub.moment r → IsGood host → AreSound room → Does room (moved_with calling host room r)
  moves_so host room (a, lines, hub) third good sound =
      let mid : Stays id room (with_lines room (lines, hub))
      = still id room _ sound (to_lines id room.hub.moment room.calls room.hub.contexts.calls (pend id room) room (lines, hub) ((refl, refl), refl, refl) third) in
      after_change room (with_lines room (lines, hub)) (moved calling a host (with_lines room (lines, hub))) mid (moved_so a host (with_lines room (lines, hub)) good mid.sound)

  made_so : (host : H) (room : Room) (r : Option NewContext × Room) → StandsThere id room.hub.moment room.calls room.hub.contexts.calls (pend id room) r → IsGood host → AreSound room → Does room (made_with calling host r)
  made_so host room (None, mid) s good sound = (good, still id room mid sound s)
  made_so host room (Some c, mid) s good sound =
      let stays : Stays id room mid = still id room mid sound s in
      after_change room mid (tells calling c.vm callbacks.ContextCreate c.context c.root host mid) stays (tells_so c.vm callbacks.ContextCreate c.context c.root host mid good stays.sound)

  ticks_so : (vm root : ℕ) (host : H) (room : Room) (r : Bool × Room) → StandsDue id room.hub.moment room.calls room.hub.contexts.calls (pend id room) r → IsGood host → AreSound room → Does room (ticks_with calling vm root host r)
  ticks_so vm root host room (due, mid) s good sound =
      let stays : Stays id room mid = still id room mid sound s in
      of_if (Does room) due (tells calling vm callbacks.Tick root 0 host mid) (ends (both host mid))
      (λ is. after_change room mid (tells calling vm callbacks.Tick root 0 host mid) stays (tells_so vm callbacks.Tick root 0 host mid good stays.sound)) (λ is. (good, stays))

  ready_so : (vm root queue : ℕ) (host : H) (room : Room) → IsGood host → AreSound room → Does room (tells_ready calling vm root queue host room)
  ready_so vm root queue host room good sound =
      of_if (Does room) (may_stream vm root room.hub.contexts) (tells calling vm callbacks.QueueReady root queue host room) (ends (both host room))
      (λ is. tells_so vm callbacks.QueueReady root queue host room good sound) (λ is. (good, here id room sound))

  notices_so : (vm left : ℕ) (host : H) (room : Room) → IsGood host → AreSound room → Does room (notice_step plan vm left host room)
  notices_so vm left host room good sound =
      of_if (Does room) ((left == 0 || is_dead vm room) || not (nat_lt vm plan.vms)) _ _ (λ is. (good, here id room sound))
      (λ is. λ reply. (good, still id room _ sound (to_notice id room.hub.moment room.calls room.hub.contexts.calls (pend id room) vm left reply room ((refl, refl), refl, refl))))

  reads_call_so : (n : ℕ) (o : Option Callout) (host : H) (room : Room) → (n == id) ≡ false → callout_in n room.calls ≡ o → IsGood host → AreSound room → Does room (reads_call n o host room)
  reads_call_so n None host room away is good sound = (good, here id room sound)
  reads_call_so n (Some c) host room away is good sound = λ h heard. (good, hears_other id n c h room away is sound)

  pub tells_call_so : (a : Option CallAnswer) (c : Callout) (host : H) (room : Room) → IsGood host → AreSound room → Does room (tells_call calling a c host room)
  tells_call_so a c host room good sound =
      let mid : Room = put_call_answer a c.vm c.context room in
      let stays : Stays id room mid = still id room mid sound (to_answer id room.hub.moment room.calls room.hub.contexts.calls (pend id room) a c.vm c.context room ((refl, refl), refl, refl)) in
      let told : Course (Both H) = calls_live calling c.vm callbacks.CallAnswered c.context c.id 0 (drop_answer c.vm c.context) host mid in
      of_if (Does room) (has_listener c room) told (ends (both host room))
      (λ is. after_change room mid told stays (live_so c.vm callbacks.CallAnswered c.context c.id 0 (drop_answer c.vm c.context) host mid (λ T K N P. answer_keeps_none id T K N P c.vm c.context) good stays.sound))
      (λ is. (good, here id room sound))

  ends_call_so : (is_answered : Bool) (n : ℕ) (o : Option Callout) (host : H) (room : Room) → (n == id) ≡ false → IsGood host → AreSound room → Does room (ends_call calling is_answered n o host room)
  ends_call_so is_answered n None host room away good sound = (good, here id room sound)
  ends_call_so is_answered n (Some c) host room away good sound =
      let closed : Stays id room (close_call n room) = close_other id n room (other_id n id away) sound in
      after_change room (close_call n room) (tells_call calling (answer_if is_answered c) c host (close_call n room)) closed (tells_call_so (answer_if is_answered c) c host (close_call n room) good closed.sound)

  works_call_so : (s : CallStep) (host : H) (room : Room) → is_about id s ≡ false → IsGood host → AreSound room → Does room (works_call calling s host room)
  works_call_so (steps.Comes what) host room away good sound = (good, comes_other id what room away sound)
  works_call_so (steps.Read n) host room away good sound = reads_call_so n (callout_in n room.calls) host room away refl good sound
  works_call_so (steps.Fail n) host room away good sound = ends_call_so false n (callout_in n room.calls) host room away good sound
  works_call_so (steps.Answer n) host room away good sound = ends_call_so true n (callout_in n room.calls) host room away good sound

  works_other_so : (s : OtherStep) (host : H) (room : Room) → about_job id (jobs.Other s) ≡ [] → IsGood host → AreSound room → Does room (works_other calling s host room)
  works_other_so (others.Call s) host room none good sound = works_call_so s host room (not_about id s none) good sound
  works_other_so (others.Tcp s) host room none good sound = (good, here id room sound)

  quiet_so : (job : Job) (host : H) (room : Room) → IsGood host → AreSound room → Fine IsGood id room (both host (run_silent_job job room))
  quiet_so job host room good sound = (good, still id room _ sound (to_quietly id room.hub.moment room.calls room.hub.contexts.calls (pend id room) job room ((refl, refl), refl, refl)))

  works_so : (job : Job) (host : H) (room : Room) → about_job id job ≡ [] → IsGood host → AreSound room → Does room (works calling plan job host room)
  works_so (jobs.Root vm plugin first) host room none good sound = made_so host room (create_root vm plugin first room) (to_root id room.hub.moment room.calls room.hub.contexts.calls (pend id room) vm plugin first room ((refl, refl), refl, refl)) good sound
  works_so (jobs.Create number k) host room none good sound = made_so host room (create_context number k room) (to_stream id room.hub.moment room.calls room.hub.contexts.calls (pend id room) number k room ((refl, refl), refl, refl)) good sound
  works_so (jobs.Tick vm root) host room none good sound = ticks_so vm root host room (tick_root vm root room) (to_tick id room.hub.moment room.calls room.hub.contexts.calls (pend id room) vm root room ((refl, refl), refl, refl)) good sound
  works_so (jobs.Notice vm left) host room none good sound = notices_so vm left host room good sound
  works_so (jobs.Ready vm root queue) host room none good sound = ready_so vm root queue host room good sound
  works_so (jobs.Other s) host room none good sound = works_other_so s host room none good sound
  works_so (jobs.Begin vm) host room none good sound = tells_so vm callbacks.Begin 0 0 host room good sound
  works_so (jobs.Start vm root) host room none good sound =
      live_so vm callbacks.VmStart root (vm_length vm room.hub.contexts) 0 (unless_zero vm deaths.Start) host room (λ T K N P. unless_zero_keeps id T K N P vm deaths.Start) good sound
  works_so (jobs.Configure vm root plugin) host room none good sound =
      live_so vm callbacks.Configure root (plugin_length plugin room.hub.contexts) 0 (unless_zero vm deaths.Configure) host room (λ T K N P. unless_zero_keeps id T K N P vm deaths.Configure) good sound
  works_so (jobs.Done c) host room none good sound = live_so c.vm callbacks.Done c.context 0 0 (finish_context c) host room (λ T K N P. done_keeps id T K N P c) good sound
  works_so (jobs.Log c) host room none good sound = tells_so c.vm callbacks.Log c.context 0 host room good sound
  works_so (jobs.Delete c) host room none good sound = live_so c.vm callbacks.Delete c.context 0 0 (delete_context c) host room (λ T K N P. deletes_keeps id T K N P c) good sound
  works_so jobs.Expire host room none good sound = quiet_so jobs.Expire host room good sound
  works_so (jobs.Happen what) host room none good sound = quiet_so (jobs.Happen what) host room good sound
  works_so (jobs.Enter number) host room none good sound = quiet_so (jobs.Enter number) host room good sound
  works_so (jobs.Put number response items) host room none good sound = quiet_so (jobs.Put number response items) host room good sound
  works_so (jobs.Refuse number status) host room none good sound = quiet_so (jobs.Refuse number status) host room good sound
  works_so (jobs.Close number stays) host room none good sound = quiet_so (jobs.Close number stays) host room good sound

  first_so : (js : List Job) (host : H) (room : Room) → room.jobs ≡ js → Usual id next.Work js → IsGood host → AreSound room → Does room (works_first calling plan js host room)
  first_so [] host room is usual good sound = (good, here id room sound)
  first_so (job ∷ later) host room is usual good sound =
      let taken : Stays id room (record room { jobs = later }) = taken_stays id job later room is usual sound in
      after_change room (record room { jobs = later }) (works calling plan job host (record room { jobs = later })) taken (works_so job host (record room { jobs = later }) usual good taken.sound)

  reads_so : (o : Option ReadBatch) (host : H) (room : Room) → IsGood host → AreSound room → Does room (reads_next plan o host room)
  reads_so None host room good sound = (good, here id room sound)
  reads_so (Some r) host room good sound = by_reading (reading_on r room)
    where
      by_reading : (o : Option Reading) → Does room (reads_in plan r o host room)
      by_reading None = (good, still id room (record room { reading = None }) sound ((refl, refl), refl, refl))
      by_reading (Some reading) = λ h heard. (good, still id room _ sound (to_heard id room.hub.moment room.calls room.hub.contexts.calls (pend id room) plan r h (record room { reading = None }) ((refl, refl), refl, refl)))

  step_at : (nx : Next) (host : H) (room : Room) → next_of room ≡ nx → Usual id nx room.jobs → IsGood host → AreSound room → Does room (step calling plan nx host room)
  step_at next.Read host room is usual good sound = reads_so room.reading host room good sound
  step_at (next.Move place) host room is usual good sound =
      moves_so host room (asks_at place (slice_get room.lines place) room.lines room.hub)
      (in_asks_at (HasCalls room.hub.contexts.calls) (has_calls room.hub.contexts.calls) room.hub.moment place (slice_get room.lines place) room.lines room.hub (refl, refl)) good sound
  step_at next.Work host room is usual good sound = first_so room.jobs host room refl usual good sound
  step_at (next.Free at) host room is usual good sound = (good, still id room _ sound (to_frees id room.hub.moment room.calls room.hub.contexts.calls (pend id room) at (slice_get room.waits at) room ((refl, refl), refl, refl)))
  step_at (next.End place) host room is usual good sound = (good, still id room _ sound (to_ends_at id room.hub.moment room.calls room.hub.contexts.calls (pend id room) place room ((refl, refl), refl, refl)))
  step_at next.Begin host room is usual good sound = (good, begun_stays id room.agenda room (begins_empty room is) refl sound)
  step_at next.Rest host room is usual good sound = (good, here id room sound)

  -- A STEP that is not about the callout leaves it as it is
  pub step_so : (host : H) (room : Room) → Usual id (next_of room) room.jobs → IsGood host → AreSound room → Does room (step calling plan (next_of room) host room)
  step_so host room usual good sound = step_at (next_of room) host room refl usual good sound

-- ---- what such steps tell

silent_name : (id : ℕ) (q : Callee) → (place_of q.name == place_of callbacks.CallAnswered) ≡ false → report_by id (Some q) ≡ []
silent_name id q other = ap (λ (b : Bool). if b && (q.first == id) then q ∷ [] else []) other

live_silent : (id vm : ℕ) (name : Callback) (context first second : ℕ) (room : Room) → (place_of name == place_of callbacks.CallAnswered) ≡ false → report_by id (live_callee vm name context first second room) ≡ []
live_silent id vm name context first second room other =
    of_if (λ (o : Option Callee). report_by id o ≡ []) (is_dead vm room) None (Some (record { vm = vm; name = name; context = context; first = first; second = second; room = room }))
    (λ is. refl) (λ is. silent_name id (record { vm = vm; name = name; context = context; first = first; second = second; room = room }) other)

made_silent : (id : ℕ) (r : Option NewContext × Room) → report_by id (made_callee r) ≡ []
made_silent id (None, room) = refl
made_silent id (Some c, room) = live_silent id c.vm callbacks.ContextCreate c.context c.root 0 room refl

ticked_silent : (id vm root : ℕ) (r : Bool × Room) → report_by id (ticked_callee vm root r) ≡ []
ticked_silent id vm root (true, room) = live_silent id vm callbacks.Tick root 0 0 room refl
ticked_silent id vm root (false, room) = refl

ready_silent : (id vm root queue : ℕ) (room : Room) → report_by id (ready_callee vm root queue room) ≡ []
ready_silent id vm root queue room =
    of_if (λ (o : Option Callee). report_by id o ≡ []) (may_stream vm root room.hub.contexts) (live_callee vm callbacks.QueueReady root queue 0 room) None
    (λ is. live_silent id vm callbacks.QueueReady root queue 0 room refl) (λ is. refl)

-- of another callout
ended_silent : (id : ℕ) (is_answered : Bool) (n : ℕ) (o : Option Callout) (room : Room) → (n == id) ≡ false → ((c : Callout) → o ≡ Some c → c.id ≡ n) → report_by id (ended_callee is_answered n o room) ≡ []
ended_silent id is_answered n None room away is = refl
ended_silent id is_answered n (Some c) room away is =
    let closed : Room = close_call n room in
    let mid : Room = put_call_answer (answer_if is_answered c) c.vm c.context closed in
    let q : Callee = record { vm = c.vm; name = callbacks.CallAnswered; context = c.context; first = c.id; second = 0; room = mid } in
    of_if (λ (o : Option Callee). report_by id o ≡ []) (has_listener c closed) (live_callee c.vm callbacks.CallAnswered c.context c.id 0 mid) None
    (λ there. of_if (λ (o : Option Callee). report_by id o ≡ []) (is_dead c.vm mid) None (Some q) (λ e. refl)
    (λ e. ap (λ (b : Bool). if b then q ∷ [] else []) (ap (λ (n : ℕ). n == id) (is c refl) ∙ away)))
    (λ none. refl)

call_silent : (id : ℕ) (s : CallStep) (room : Room) → is_about id s ≡ false → report_by id (call_callee s room) ≡ []
call_silent id (steps.Comes what) room away = refl
call_silent id (steps.Read n) room away = refl
call_silent id (steps.Fail n) room away = ended_silent id false n (callout_in n room.calls) room away (λ c is. found_id n room.calls c is)
call_silent id (steps.Answer n) room away = ended_silent id true n (callout_in n room.calls) room away (λ c is. found_id n room.calls c is)

job_silent : (id : ℕ) (job : Job) (room : Room) → about_job id job ≡ [] → report_by id (job_callee job room) ≡ []
job_silent id (jobs.Begin vm) room none = live_silent id vm callbacks.Begin 0 0 0 room refl
job_silent id (jobs.Root vm plugin first) room none = made_silent id (create_root vm plugin first room)
job_silent id (jobs.Start vm root) room none = live_silent id vm callbacks.VmStart root (vm_length vm room.hub.contexts) 0 room refl
job_silent id (jobs.Configure vm root plugin) room none = live_silent id vm callbacks.Configure root (plugin_length plugin room.hub.contexts) 0 room refl
job_silent id (jobs.Tick vm root) room none = ticked_silent id vm root (tick_root vm root room)
job_silent id jobs.Expire room none = refl
job_silent id (jobs.Happen what) room none = refl
job_silent id (jobs.Create number k) room none = made_silent id (create_context number k room)
job_silent id (jobs.Enter number) room none = refl
job_silent id (jobs.Put number response items) room none = refl
job_silent id (jobs.Refuse number status) room none = refl
job_silent id (jobs.Done c) room none = live_silent id c.vm callbacks.Done c.context 0 0 room refl
job_silent id (jobs.Log c) room none = live_silent id c.vm callbacks.Log c.context 0 0 room refl
job_silent id (jobs.Delete c) room none = live_silent id c.vm callbacks.Delete c.context 0 0 room refl
job_silent id (jobs.Close number stays) room none = refl
job_silent id (jobs.Notice vm left) room none = refl
job_silent id (jobs.Ready vm root queue) room none = ready_silent id vm root queue room
job_silent id (jobs.Other (others.Call s)) room none = call_silent id s room (not_about id s none)
job_silent id (jobs.Other (others.Tcp s)) room none = refl

kind_other : (response : Bool) (kind : AskKind) → (place_of (callback_of response kind) == place_of callbacks.CallAnswered) ≡ false
kind_other false kinds.Head = refl
kind_other false kinds.Piece = refl
kind_other false kinds.Trailers = refl
kind_other true kinds.Head = refl
kind_other true kinds.Piece = refl
kind_other true kinds.Trailers = refl

asked_silent : (id : ℕ) (room : Room) (r : Option Asked × List Line × Hub) → report_by id (asked_callee room r) ≡ []
asked_silent id room (None, lines, hub) = refl
asked_silent id room (Some a, lines, hub) =
    silent_name id (record { vm = a.vm; name = callback_of a.response a.ask.kind; context = a.context; first = a.count; second = number_of a.ask.end; room = with_lines room (lines, hub) }) (kind_other a.response a.ask.kind)

first_silent : (id : ℕ) (js : List Job) (room : Room) → Usual id next.Work js → report_by id (first_callee js room) ≡ []
first_silent id [] room usual = refl
first_silent id (job ∷ later) room usual = job_silent id job (record room { jobs = later }) usual

-- A STEP that is not about the callout tells nobody of it
pub step_silent : (id : ℕ) (nx : Next) (room : Room) → Usual id nx room.jobs → report_by id (step_callee nx room) ≡ []
step_silent id next.Read room usual = refl
step_silent id (next.Move place) room usual = asked_silent id room (asks_at place (slice_get room.lines place) room.lines room.hub)
step_silent id next.Work room usual = first_silent id room.jobs room usual
step_silent id (next.Free at) room usual = refl
step_silent id (next.End place) room usual = refl
step_silent id next.Begin room usual = refl
step_silent id next.Rest room usual = refl
