-- ISOLATION OF LINES WITHOUT FILTERS: what else a worker does, whatever the filters of its other lines do, is not to be seen on a line whose exchange, if
-- there is one, has no filters.
use Rattle.std.specs.List.{list_any}
use Rattle.std.specs.Prelude.{◌≡◌, ℕ, ◌==◌, Bool, true, false, List, [], ◌∷◌, ◌++◌, filter, slice_get, Option, None, Some}
use Rattle.callouts.specs.Callouts.{is_call_line}
use Rattle.filter_host.specs.Called.{Calling}
use Rattle.filter_host.specs.Course.{Course, ends, asks, measures, hears, Met, Reaches}
use Rattle.filter_host.specs.Heard.{Heard, hands, Hears}
use Rattle.exchange.specs.declared.types.Exchange.{Exchange}
use Rattle.exchange.specs.Heads.{path_of, route_in}
use Rattle.gate_io.specs.declared.event.Event.{Event}
use Rattle.gate_io.specs.declared.event.Sent.{Sent}
use Rattle.gate_io.specs.declared.event.Sent.TheVariants as to
use Rattle.gate_io.specs.declared.event.What.{What}
use Rattle.gate_io.specs.declared.event.What.TheVariants as whats
use Rattle.h1_model.specs.Head.{Head}
use Rattle.h1_model.specs.Unread.{head_part, Reading}
use Rattle.worker_model.specs.Room.{Room}
use Rattle.worker_model.specs.declared.types.Job.{Job}
use Rattle.worker_model.specs.declared.types.Job.TheVariants as jobs
use Rattle.worker_model.specs.declared.types.Line.{Line}
use Rattle.worker_model.specs.declared.types.Next.{Next}
use Rattle.worker_model.specs.declared.types.Next.TheVariants as next
use Rattle.worker_model.specs.declared.types.ReadBatch.{ReadBatch}
use Rattle.worker_model.specs.Plan.{Plan}
use Rattle.worker_model.specs.Rooms.{next_of}
use Rattle.worker_model.specs.Steps.{Both, line_in, plugins_at, reading_on, is_late, step}
use Rattle.worker_model.specs.Turn.{Outcome, turn, at_moment}
use Rattle.law_lines.specs.Logs.{WriteLogs}

-- ---- a line without filters

-- there is no exchange, or one without filters and without stages
abbrev pub IsUnfiltered : Option Exchange → Type 0
IsUnfiltered None = Unit {0}
IsUnfiltered (Some x) = (x.filters ≡ []) × (x.request ≡ []) × (x.response ≡ [])

-- the lines of a number, of which there is one at most
abbrev pub lines_on : ℕ → List Line → List Line
lines_on n lines = filter (λ (line : Line). line.number == n) lines

-- whatever stands under the number is so, if anything does
abbrev pub IsFree : ℕ → List Line → Type 0
IsFree n [] = Unit {0}
IsFree n (line ∷ lines) = (line.number ≡ n → IsUnfiltered line.exchange) × IsFree n lines

-- ---- what is of a line

abbrev pub is_event_of : ℕ → What → Bool
is_event_of n (whats.Opened m) = m == n
is_event_of n (whats.Bytes m side bytes) = m == n
is_event_of n (whats.End m side) = m == n
is_event_of n (whats.Gone m side) = m == n
is_event_of n (whats.Joined m) = m == n
is_event_of n (whats.Refused m) = m == n
is_event_of n (whats.Room m side) = m == n
is_event_of n whats.Clock = false
is_event_of n whats.Stop = false

-- it happens on the line, or something becomes of its exchange or of the line by it
abbrev pub is_job_of : ℕ → Job → Bool
is_job_of n (jobs.Begin vm) = false
is_job_of n (jobs.Root vm plugin first) = false
is_job_of n (jobs.Start vm root) = false
is_job_of n (jobs.Configure vm root plugin) = false
is_job_of n (jobs.Tick vm root) = false
is_job_of n jobs.Expire = false
is_job_of n (jobs.Happen what) = is_event_of n what
is_job_of n (jobs.Create m k) = m == n
is_job_of n (jobs.Enter m) = m == n
is_job_of n (jobs.Put m response items) = m == n
is_job_of n (jobs.Refuse m status) = m == n
is_job_of n (jobs.Done c) = false
is_job_of n (jobs.Log c) = false
is_job_of n (jobs.Delete c) = false
is_job_of n (jobs.Close m stays) = m == n
is_job_of n (jobs.Notice vm left) = false
is_job_of n (jobs.Ready vm root queue) = false
is_job_of n (jobs.Other step) = false

-- those that are in hand or come later, in order
abbrev pub jobs_on : ℕ → Room → List Job
jobs_on n room = filter (is_job_of n) (room.jobs ++ room.agenda)

abbrev pub is_read_of : ℕ → Option ReadBatch → Bool
is_read_of n None = false
is_read_of n (Some r) = r.line == n

-- a connection of the line is opened or closed, on whichever side, or bytes go over one
abbrev pub is_sent_on : ℕ → Sent → Bool
is_sent_on n (to.Connect m) = m == n
is_sent_on n (to.Bytes m side bytes) = m == n
is_sent_on n (to.Close m side) = m == n
is_sent_on n (to.Log level text) = false

-- all that is sent on the line, in order
abbrev pub sent_on : ℕ → List Sent → List Sent
sent_on n sent = filter (is_sent_on n) sent

-- ---- the steps of a line

abbrev pub is_at : ℕ → Option Line → Bool
is_at n None = false
is_at n (Some line) = line.number == n

-- the response of its exchange is due, and was neither read nor answered for
abbrev pub is_late_on : ℕ → Room → Bool
is_late_on n room = list_any (is_late room.hub.moment) (lines_on n room.lines)

-- Late responses are answered for on all lines by one job, which is of each of these.
abbrev pub is_work_of : ℕ → Room → Job → Bool
is_work_of n room jobs.Expire = is_late_on n room
is_work_of n room job = is_job_of n job

abbrev pub is_first_of : ℕ → Room → List Job → Bool
is_first_of n room [] = false
is_first_of n room (job ∷ later) = is_work_of n room job

-- THE STEP IS OF THE LINE: it reads a side of the line, moves a chain of its exchange, takes an exchange that has ended off it, or does a job of it
abbrev pub is_step_of : ℕ → Next → Room → Bool
is_step_of n next.Read room = is_read_of n room.reading
is_step_of n (next.Move place) room = is_at n (slice_get room.lines place)
is_step_of n next.Work room = is_first_of n room room.jobs
is_step_of n (next.Free at) room = false
is_step_of n (next.End place) room = is_at n (slice_get room.lines place)
is_step_of n next.Begin room = false
is_step_of n next.Rest room = false

-- ---- STEPS OF OTHERS

-- NOTHING OF IT IS TO BE SEEN ON THE LINE: that is as it was, at whatever place it stands now, or there is none, as before; it is free still; nothing was sent
-- on it, where it is a line of a client (those from 2^31 on are of callouts); the jobs of it that are to be done are those that were, in order; it is read or not
-- as before; and the moment is the same.
pub record IsUntouched (n : ℕ) (before after : Room) : Type 0 where
  pub line : lines_on n after.lines ≡ lines_on n before.lines
  pub found : line_in n after.lines ≡ line_in n before.lines
  pub free : IsFree n after.lines
  pub sent : is_call_line n ≡ false → sent_on n after.hub.sent ≡ sent_on n before.hub.sent
  pub jobs : jobs_on n after ≡ jobs_on n before
  pub reading : is_read_of n after.reading ≡ is_read_of n before.reading
  pub moment : after.hub.moment ≡ before.hub.moment

-- steps one after the other, none of which is of the line
pub data StepsOfOthers {H : Type 0} (calling : Calling H) (plan : Plan) (n : ℕ) : Both H → Both H → Type 0 where
  no_step : (b : Both H) → StepsOfOthers calling plan n b b
  one_step : (b m e : Both H) (ms : List Met) → is_step_of n (next_of b.room) b.room ≡ false → Reaches (step calling plan (next_of b.room) b.host b.room) ms (ends m)
      → StepsOfOthers calling plan n m e → StepsOfOthers calling plan n b e

-- Whatever the machines do but that they send nothing but logs, whatever the stores reply and whatever is read, a step that is not of the line leaves it
-- untouched, and so do such steps one after the other.
pub record OthersLeaveTheLine (H : Type 0) : Type 0 where
  pub each : (calling : Calling H) (plan : Plan) (n : ℕ) (b c : Both H) (ms : List Met) → WriteLogs calling → IsFree n b.room.lines
      → is_step_of n (next_of b.room) b.room ≡ false → Reaches (step calling plan (next_of b.room) b.host b.room) ms (ends c) → IsUntouched n b.room c.room
  pub all : (calling : Calling H) (plan : Plan) (n : ℕ) (b e : Both H) → WriteLogs calling → IsFree n b.room.lines → StepsOfOthers calling plan n b e
      → IsUntouched n b.room e.room

-- ---- ITS OWN STEPS

-- nothing is called: the machines are as they were, and no shared store is asked for anything
abbrev pub CallsNone : {H : Type 0} → H → Course (Both H) → Type 0
CallsNone host (ends b) = b.host ≡ host
CallsNone host (asks vm call k) = ⊥
CallsNone host (measures vm call k) = ⊥
CallsNone host (hears reading k) = (h : Heard) → CallsNone host (k h)

-- where the head of a request is read of the line's client, its route has no filters, or none takes it
abbrev pub TakesNoFilters : Plan → ℕ → Room → Type 0
TakesNoFilters plan n room =
    (r : ReadBatch) (reading rest : Reading) (h : Head) → room.reading ≡ Some r → r.line ≡ n → r.up ≡ false → reading_on r room ≡ Some reading
    → Hears reading (hands (head_part h) rest) → plugins_at plan.routes (route_in plan.routes (path_of h.fields)) ≡ []

-- A STEP OF A FREE LINE calls no machine, and is the same whatever the machines are; and the line stays free where no request for a route with filters comes.
pub record OwnStepsCallNothing (H : Type 0) : Type 0 where
  pub none : (calling : Calling H) (plan : Plan) (n : ℕ) (b : Both H) → IsFree n b.room.lines → is_step_of n (next_of b.room) b.room ≡ true
      → CallsNone b.host (step calling plan (next_of b.room) b.host b.room)
  pub alike : (calling other : Calling H) (plan : Plan) (n : ℕ) (b : Both H) → IsFree n b.room.lines → is_step_of n (next_of b.room) b.room ≡ true
      → step calling plan (next_of b.room) b.host b.room ≡ step other plan (next_of b.room) b.host b.room
  pub stays : (calling : Calling H) (plan : Plan) (n : ℕ) (b c : Both H) (ms : List Met) → IsFree n b.room.lines → is_step_of n (next_of b.room) b.room ≡ true
      → TakesNoFilters plan n b.room → Reaches (step calling plan (next_of b.room) b.host b.room) ms (ends c) → IsFree n c.room.lines

-- ---- TURNS OF OTHERS

-- what is seen of a free line before and after a turn: it is as it was, and free still
pub record IsAsBefore (n : ℕ) (before after : Room) : Type 0 where
  pub line : lines_on n after.lines ≡ lines_on n before.lines
  pub found : line_in n after.lines ≡ line_in n before.lines
  pub free : IsFree n after.lines

-- A WHOLE TURN at the event of another line, or of none, from a room that is at rest as each turn leaves it, where the line's response is not due at the event's
-- moment: whatever the machines do but that they send nothing but logs, and whatever the stores reply, all that is sent in the turn is sent on other lines or into
-- the log, where the line is one of a client, and the line is as it was.
abbrev pub TurnsOfOthersLeaveTheLine : Type 0 → Type 0
TurnsOfOthersLeaveTheLine H =
    (calling : Calling H) (plan : Plan) (n : ℕ) (state : Both H) (event : Event) (ms : List Met) (out : Outcome H) → WriteLogs calling → IsFree n state.room.lines
    → next_of state.room ≡ next.Rest → sent_on n state.room.hub.sent ≡ [] → is_event_of n event.what ≡ false → is_late_on n (at_moment event.now state.room) ≡ false
    → Reaches (turn calling plan state event) ms (ends out) → IsAsBefore n state.room out.state.room × (is_call_line n ≡ false → sent_on n out.sent ≡ [])
