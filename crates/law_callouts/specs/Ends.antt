-- EACH CALLOUT ENDS ONCE, BY ITS FATE: over whole turns of a worker whose lines are HTTP, whatever its machines do and the shared stores reply. The fate is read
-- off the events that passed (`IsFate`), and not off what the worker keeps.
use Rattle.std.specs.Prelude.{◌≡◌, ◌<◌, ◌≤◌, ◌==◌, ◌&&◌, ℕ, Bool, true, false, List, [], ◌∷◌, ◌++◌, map, Option, None, Some, if◌then◌else◌}
use Rattle.callouts.specs.Callouts.{line_of, line_in, callout_in, begun, no_answer}
use Rattle.callouts.specs.Fates.{Known, Fate, pending, answered, failed, IsFate}
use Rattle.callouts.specs.declared.types.Callout.{Callout}
use Rattle.contexts.specs.declared.parts.CallAnswer.{CallAnswer}
use Rattle.contexts.specs.declared.parts.Contexts.{Contexts}
use Rattle.contexts.specs.declared.parts.Request.{Request}
use Rattle.contexts.specs.Stages.{own_at}
use Rattle.filter_host.specs.Called.{Called, Calling}
use Rattle.filter_host.specs.Course.{ends, Met, Reaches}
use Rattle.filter_host.specs.declared.host.Callback.{Callback}
use Rattle.filter_host.specs.declared.host.Callback.TheVariants.{CallAnswered}
use Rattle.gate_io.specs.Events.{is_stop}
use Rattle.gate_io.specs.declared.event.Event.{Event}
use Rattle.gate_io.specs.declared.event.What.{What}
use Rattle.h1_model.specs.Unread.{new_reading}
use Rattle.store_model.specs.Program.{Program, done, ask, measure}
use Rattle.store_model.specs.declared.call.Reply.{Reply}
use Rattle.store_model.specs.declared.metric.MetricReply.{MetricReply}
use Rattle.worker_model.specs.Calls.{has_listener, close_call, put_call_answer}
use Rattle.worker_model.specs.Plan.{Plan}
use Rattle.worker_model.specs.Room.{Room}
use Rattle.worker_model.specs.Rooms.{next_of}
use Rattle.worker_model.specs.Settling.{is_rest}
use Rattle.worker_model.specs.Steps.{Both, both, step}
use Rattle.worker_model.specs.Turn.{happening, room_for_event, without_sent}
use Rattle.worker_model.specs.declared.types.Job.{Job}
use Rattle.law_flow.specs.Dying.{Callee, callee, step_callee}
use Rattle.law_meaning.specs.Turns.{Turn, Turns}
use Rattle.law_meaning.specs.Walks.{Step}
use Rattle.law_turns.specs.Tables.{number_of}
use Rattle.law_callouts.specs.Scenes.{answer_in}
use Rattle.law_callouts.specs.Sound.{AreSound}

-- ---- whole turns, step by step

-- The steps of whole turns of HTTP at these events, one after another: each step is the one that is next, a turn begins where the one before is at rest, and
-- the last one is at rest too. No event is Stop, at which a worker does nothing.
pub data Life {H : Type 0} (calling : Calling H) (plan : Plan) : Both H → List Event → List (Step H) → Both H → Type 0 where
  rests : (b : Both H) → is_rest (next_of b.room) ≡ true → Life calling plan b [] [] b
  steps : (b m e : Both H) (ms : List Met) (events : List Event) (more : List (Step H)) → is_rest (next_of b.room) ≡ false
      → Reaches (step calling plan (next_of b.room) b.host b.room) ms (ends m)
      → Life calling plan m events more e → Life calling plan b events (record { before = b; met = ms; after = m } ∷ more) e
  turns : (b e : Both H) (event : Event) (events : List Event) (more : List (Step H)) → is_rest (next_of b.room) ≡ true → is_stop event.what ≡ false
      → Life calling plan (both b.host (room_for_event plan event (without_sent b.room))) events more e → Life calling plan b (event ∷ events) more e

-- Each of these turns came to rest, and none is that of Stop.
abbrev pub AreWhole : {H : Type 0} → List (Turn H) → Type 0
AreWhole [] = Unit {0}
AreWhole (t ∷ more) = (is_stop t.event.what ≡ false) × (is_rest (next_of t.end.state.room) ≡ true) × AreWhole more

-- The steps of turns that come to this state, from which nothing is left to be sent.
pub record LifeOf {H : Type 0} (calling : Calling H) (plan : Plan) (b : Both H) (events : List Event) (to : Both H) : Type 0 where
  pub all : List (Step H)
  pub end : Both H
  pub life : Life calling plan b events all end
  pub is : to ≡ both end.host (without_sent end.room)

-- WHOLE TURNS, ONE AFTER ANOTHER, ARE SUCH STEPS, by a plan without streams of bytes, wherever they begin at rest.
abbrev pub TurnsAreLives : (H : Type 0) → Type 0
TurnsAreLives H =
    (calling : Calling H) (plan : Plan) (b to : Both H) (all : List (Turn H)) → plan.tcp ≡ [] → is_rest (next_of b.room) ≡ true → Turns calling plan (both b.host (without_sent b.room)) all to → AreWhole all
    → LifeOf calling plan b (map (λ (t : Turn H). t.event) all) to

-- ---- what is asked of the machines: that a callback leaves the counts of callouts

-- Each end of a program is so, whatever is replied.
abbrev pub AllOf : {A : Type 0} → (A → Type 0) → Program A → Type 0
AllOf P (done a) = P a
AllOf P (ask vm call k) = (r : Reply) → AllOf P (k r)
AllOf P (measure vm asked k) = (r : MetricReply) → AllOf P (k r)

-- A callback leaves how many callouts are under way and the last id drawn. What it asks for is done after it, and counted then.
pub record KeepsCounts {H : Type 0} (calling : Calling H) : Type 0 where
  pub keeps : (host : H) (vm : ℕ) (name : Callback) (context first second now : ℕ) (h : Contexts)
      → AllOf (λ (c : Called H). c.contexts.calls ≡ h.calls) (calling host vm name context first second now h)

-- ---- the callbacks that report the end of a callout

-- The callback reports the end of the callout of an id.
abbrev pub reports_on : ℕ → Callee → Bool
reports_on id q = (number_of q.name == number_of CallAnswered) && (q.first == id)

-- The callback itself, where it reports that.
abbrev pub report_by : ℕ → Option Callee → List Callee
report_by id None = []
report_by id (Some q) = if reports_on id q then q ∷ [] else []

-- The report of a step on the callout of an id, if it makes one.
abbrev pub report_at : {H : Type 0} → ℕ → Step H → List Callee
report_at id s = report_by id (step_callee (next_of s.before.room) s.before.room)

-- All callbacks of these steps that report the end of the callout of an id, in order.
abbrev pub reports_in : {H : Type 0} → ℕ → List (Step H) → List Callee
reports_in id [] = []
reports_in id (s ∷ more) = report_at id s ++ reports_in id more

-- The callback that reports the end of a callout to its context: in this room, with the answer put at the context, or None where it failed.
abbrev pub report_of : Option CallAnswer → Callout → Room → Callee
report_of answer c room = callee c.vm CallAnswered c.context c.id 0 (put_call_answer answer c.vm c.context room)

-- THE CONTEXT OF A REPORT HAS THE ANSWER that it reports, or none: of that the callback is given the counts.
abbrev pub ReportsHaveAnswers : Type 0
ReportsHaveAnswers =
    (answer : Option CallAnswer) (c : Callout) (room : Room) → has_listener c room ≡ true → answer_in (own_at (report_of answer c room).room.hub.contexts c.vm c.context) ≡ answer

-- ---- how a callout ends

-- It ends in one step, in which its connection is closed. That step reports its end to its context, with this answer, if the context is there and its
-- VM lives; else it reports nothing. No other step reports on it.
pub record EndsOnce {H : Type 0} (c : Callout) (answer : Option CallAnswer) (all : List (Step H)) : Type 0 where
  pub earlier : List (Step H)
  pub ending : Step H
  pub later : List (Step H)
  pub is : all ≡ earlier ++ ending ∷ later
  pub not_before : reports_in c.id earlier ≡ []
  -- the jobs that are left for later
  pub left : List Job
  pub reported : report_at c.id ending
      ≡ (if has_listener c ending.before.room then report_of answer c (close_call c.id (record ending.before.room { jobs = left })) ∷ [] else [])
  pub not_after : reports_in c.id later ≡ []

-- It is under way no more, and no event of its line is a part of any turn.
pub record IsOver (id : ℕ) (room : Room) : Type 0 where
  pub gone : callout_in id room.calls ≡ None
  pub deaf : (what : What) → line_in what ≡ Some (line_of id) → happening what room ≡ []

-- It is under way: the one of its id has its VM, its context and its deadline.
pub record GoesOn (c : Callout) (room : Room) : Type 0 where
  pub now : Callout
  pub there : callout_in c.id room.calls ≡ Some now
  pub vm : now.vm ≡ c.vm
  pub context : now.context ≡ c.context
  pub due : now.due ≡ c.due

-- By its fate: while that is open it is under way, and no step reports on it; else it ended once, by that.
abbrev pub EndsBy : {H : Type 0} → Fate → Callout → List (Step H) → Both H → Type 0
EndsBy pending c all e = (reports_in c.id all ≡ []) × GoesOn c e.room
EndsBy (answered a) c all e = EndsOnce c (Some a) all × IsOver c.id e.room
EndsBy failed c all e = EndsOnce c None all × IsOver c.id e.room

-- What is known of a callout before anything came of its line.
abbrev pub known_of : (method : List ℕ) → Callout → Known
known_of method c = record { line = line_of c.id; method = method; due = c.due; text = [] }

-- Nothing came of it yet, where a request of this method was sent.
pub record IsNew (method : List ℕ) (c : Callout) : Type 0 where
  pub reader : c.reader ≡ new_reading (Some method)
  pub answer : c.answer ≡ no_answer

-- EACH CALLOUT ENDS ONCE, BY ITS FATE: from a worker at rest in which it has just begun, over all events after that.
abbrev pub CalloutsEndOnce : (H : Type 0) → Type 0
CalloutsEndOnce H =
    (calling : Calling H) (plan : Plan) (b e : Both H) (events : List Event) (all : List (Step H)) (c : Callout) (method : List ℕ) (fate : Fate)
    → KeepsCounts calling → AreSound b.room → is_rest (next_of b.room) ≡ true
    → callout_in c.id b.room.calls ≡ Some c → IsNew method c → Life calling plan b events all e
    → IsFate (known_of method c) events fate → EndsBy fate c all e

-- ---- how it begins

-- A callout of this id has just begun, by some request at this moment.
pub record BeginsIn (id now : ℕ) (room : Room) : Type 0 where
  pub request : Request
  pub there : callout_in id room.calls ≡ Some (begun id now request)

-- AN ID THAT WAS NOT DRAWN before a turn is reported on in no step of that turn. Where it was drawn by the turn's end, its callout is as it began at the
-- moment of that turn's event.
abbrev pub CalloutsBeginNew : (H : Type 0) → Type 0
CalloutsBeginNew H =
    (calling : Calling H) (plan : Plan) (b e : Both H) (event : Event) (all : List (Step H)) (id : ℕ)
    → KeepsCounts calling → AreSound b.room → is_rest (next_of b.room) ≡ true → b.room.hub.contexts.calls.last < id
    → Life calling plan b (event ∷ []) all e → (reports_in id all ≡ []) × (id ≤ e.room.hub.contexts.calls.last → BeginsIn id event.now e.room)

-- CALLOUTS STAY SOUND over whole turns.
abbrev pub CalloutsAreSoundInLives : (H : Type 0) → Type 0
CalloutsAreSoundInLives H =
    (calling : Calling H) (plan : Plan) (b e : Both H) (events : List Event) (all : List (Step H))
    → KeepsCounts calling → AreSound b.room → Life calling plan b events all e → AreSound e.room
