-- A CLIENT THAT IS GONE: the end of the exchange on its line comes next, before any callback. What host calls are told meanwhile is not said.
use Rattle.std.specs.Prelude.{◌≡◌, ℕ, true, false, List, [], ◌∷◌, None, Some, slice_get}
use Rattle.contexts.specs.Making.{no_contexts}
use Rattle.filter_host.specs.Called.{Calling}
use Rattle.filter_host.specs.Course.{ends}
use Rattle.exchange.specs.declared.types.Exchange.{Exchange}
use Rattle.gate_base.specs.declared.level.Level.TheVariants as levels
use Rattle.gate_io.specs.declared.event.Side.TheVariants.{Down}
use Rattle.gate_io.specs.declared.event.What.TheVariants as whats
use Rattle.h1_model.specs.Unread.{new_reading}
use Rattle.worker_model.specs.Plan.{Plan}
use Rattle.worker_model.specs.Rooms.{next_of, place_in}
use Rattle.worker_model.specs.Steps.{both, take_event, begin_first_job, step}
use Rattle.worker_model.specs.Room.{Room}
use Rattle.worker_model.specs.declared.types.Job.{Job}
use Rattle.worker_model.specs.declared.types.Job.TheVariants as jobs
use Rattle.worker_model.specs.declared.types.Line.{Line}
use Rattle.worker_model.specs.declared.types.Next.TheVariants as next

-- the room in which that is the only job in hand, and the one after it
abbrev pub told_gone : Room → Room
told_gone room = begin_first_job room.agenda room

abbrev pub behind_gone : (number : ℕ) → Room → Room
behind_gone number room = take_event (whats.Gone number Down) (record (told_gone room) { jobs = [] })

-- Where a worker is at rest but for the parts of its turn, and the first of these is that the client of a line is gone: that is done next; it calls nothing; and
-- what comes after it is the end of the line's exchange.
pub record EndsNext {H : Type 0} (calling : Calling H) (plan : Plan) (host : H) (room : Room) (number k : ℕ) : Type 0 where
  pub works : next_of (told_gone room) ≡ next.Work
  pub calls_nothing : step calling plan next.Work host (told_gone room) ≡ ends (both host (behind_gone number room))
  pub end : next_of (behind_gone number room) ≡ next.End k

abbrev pub GoneEndNext : Type 0 → Type 0
GoneEndNext H =
    (calling : Calling H) (plan : Plan) (host : H) (room : Room) (number k : ℕ) (later : List Job) (line : Line) (x : Exchange) → next_of room ≡ next.Begin
    → room.agenda ≡ jobs.Happen (whats.Gone number Down) ∷ later → place_in number room.lines ≡ Some k → slice_get room.lines k ≡ Some line → line.exchange ≡ Some x
    → EndsNext calling plan host room number k

-- ---- worked: a worker with one line, on which an exchange without stages is open, and whose client is gone

abbrev pub one_line : Exchange → Line
one_line x = record { number = 7; requests = new_reading None; is_gone = false; exchange = Some x }

abbrev pub with_one : Exchange → Room
with_one x = record {
  lines = one_line x ∷ [];
  hub = record { moment = 0; contexts = no_contexts levels.Info []; sent = [] };
  reading = None;
  jobs = [];
  agenda = jobs.Happen (whats.Gone 7 Down) ∷ [];
  waits = [];
  dead = [];
  is_begun = true;
  calls = [];
  tcp = [];
}

abbrev pub GoneExamples : Type 0
GoneExamples = (x : Exchange) → x.has_ended ≡ false → x.request ≡ [] → x.response ≡ [] → next_of (with_one x) ≡ next.Begin
