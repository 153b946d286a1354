-- A script: its lines in order, each ended by LF, and the events that they are.
use Rattle.std.specs.Prelude.{◌≡◌, ℕ, ◌+◌, ◌≤◌, Bool, true, false, List, [], ◌∷◌, ◌++◌, length, Option, None, Some}
use Rattle.gate_io.specs.declared.event.Event.{Event}
use Rattle.gate_io.specs.declared.event.What.{What}
use Rattle.gate_io.specs.MemoryWorld.{stop_at}
use Rattle.replay_script.specs.declared.command.Command.{Command}
use Rattle.replay_script.specs.declared.command.Command.TheVariants.{On, At, Open, Bytes, End, Gone, Joined, Refused, UpBytes, UpEnd, UpGone, Clock, Stop}
use Rattle.replay_script.specs.Commands.{text_of, what_of, IsInForm}

-- the text of the lines, each with an LF after it
abbrev pub script_text : List Command → List ℕ
script_text [] = []
script_text (command ∷ commands) = text_of command ++ (10 ∷ script_text commands)

-- How far the lines of a script have come: the moment of what happens next and the worker that it happens at, whether `stop` was there,
-- and how many workers there are.
pub record Standing : Type 0 where
  pub now : ℕ
  pub who : ℕ
  pub stopped : Bool
  pub workers : ℕ

-- before the first line, where there are so many workers
abbrev pub at_start : ℕ → Standing
at_start workers = record { now = 0; who = 1; stopped = false; workers = workers }

-- the moment after a line: `at` sets it
abbrev pub moment_behind : ℕ → Command → ℕ
moment_behind now (On worker) = now
moment_behind now (At moment) = moment
moment_behind now (Open line) = now
moment_behind now (Bytes line bytes) = now
moment_behind now (End line) = now
moment_behind now (Gone line) = now
moment_behind now (Joined line) = now
moment_behind now (Refused line) = now
moment_behind now (UpBytes line bytes) = now
moment_behind now (UpEnd line) = now
moment_behind now (UpGone line) = now
moment_behind now Clock = now
moment_behind now Stop = now

-- the worker after a line: `on` sets it
abbrev pub worker_behind : ℕ → Command → ℕ
worker_behind who (On worker) = worker
worker_behind who (At moment) = who
worker_behind who (Open line) = who
worker_behind who (Bytes line bytes) = who
worker_behind who (End line) = who
worker_behind who (Gone line) = who
worker_behind who (Joined line) = who
worker_behind who (Refused line) = who
worker_behind who (UpBytes line bytes) = who
worker_behind who (UpEnd line) = who
worker_behind who (UpGone line) = who
worker_behind who Clock = who
worker_behind who Stop = who

abbrev pub is_stop : Command → Bool
is_stop (On worker) = false
is_stop (At moment) = false
is_stop (Open line) = false
is_stop (Bytes line bytes) = false
is_stop (End line) = false
is_stop (Gone line) = false
is_stop (Joined line) = false
is_stop (Refused line) = false
is_stop (UpBytes line bytes) = false
is_stop (UpEnd line) = false
is_stop (UpGone line) = false
is_stop Clock = false
is_stop Stop = true

-- after one line, and after these
abbrev pub behind : Standing → Command → Standing
behind standing command = record {
  now = moment_behind standing.now command;
  who = worker_behind standing.who command;
  stopped = is_stop command;
  workers = standing.workers;
}

abbrev pub behind_all : Standing → List Command → Standing
behind_all standing [] = standing
behind_all standing (command ∷ commands) = behind_all (behind standing command) commands

-- The line may come next: it is within its bounds, no moment is less than the one before, the worker is there, and no line stands behind
-- `stop`.
pub record ComesNext (standing : Standing) (command : Command) : Type 0 where
  pub in_form : IsInForm command
  pub rises : standing.now ≤ moment_behind standing.now command
  pub there : worker_behind standing.who command ≤ standing.workers
  pub goes_on : standing.stopped ≡ false

-- each of the lines may come next after those before it
abbrev pub AreLines : Standing → List Command → Type 0
AreLines standing [] = Unit {0}
AreLines standing (command ∷ commands) = ComesNext standing command × AreLines (behind standing command) commands

-- The text is the script of these lines, of so many workers.
pub record IsScript (workers : ℕ) (text : List ℕ) (commands : List Command) : Type 0 where
  pub lines : AreLines (at_start workers) commands
  pub is : text ≡ script_text commands

-- The text begins with these lines, which are a script, and the line after them, of this number from 1, is of no form:
-- it is none of a script with these lines before it.
pub record FirstBad (workers : ℕ) (text : List ℕ) (number : ℕ) : Type 0 where
  pub front : List Command
  pub rest : List ℕ
  pub lines : AreLines (at_start workers) front
  pub is : text ≡ script_text front ++ rest
  pub number_is : number ≡ length front + 1
  pub some : rest ≡ [] → ⊥
  pub bad : (command : Command) (more : List ℕ) → ComesNext (behind_all (at_start workers) front) command → rest ≡ text_of command ++ (10 ∷ more) → ⊥

-- what happens at a moment, if anything
abbrev pub happens : ℕ → Option What → List Event
happens now None = []
happens now (Some what) = record { now = now; what = what } ∷ []

-- The events of lines, from a moment on: each happens at the moment that was set last, and at their end comes Stop.
abbrev pub events_from : ℕ → List Command → List Event
events_from now [] = stop_at now ∷ []
events_from now (command ∷ commands) = happens now (what_of command) ++ events_from (moment_behind now command) commands

-- the events of a script
abbrev pub events_of : List Command → List Event
events_of commands = events_from 0 commands

-- The workers of the events, from a worker on: each happens at the worker that was set last, and so does Stop.
abbrev pub worker_of : ℕ → Option What → List ℕ
worker_of who None = []
worker_of who (Some what) = who ∷ []

abbrev pub workers_from : ℕ → List Command → List ℕ
workers_from who [] = who ∷ []
workers_from who (command ∷ commands) = worker_of who (what_of command) ++ workers_from (worker_behind who command) commands

-- the workers of the events of a script, one for each
abbrev pub workers_of : List Command → List ℕ
workers_of commands = workers_from 1 commands
