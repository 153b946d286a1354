-- What a world over sockets gives, and what goes to its lines.
use Rattle.std.specs.Prelude.{◌≡◌, ◌⊎◌, ℕ, true, false, List, Option, None, Some, Result, Ok, Err}
use Rattle.gate_io.specs.declared.ends.WorldEnd.{WorldEnd}
use Rattle.gate_io.specs.declared.event.Event.{Event}
use Rattle.gate_io.specs.declared.event.Side.{Side}
use Rattle.gate_io.specs.declared.event.Side.TheVariants.{Down, Up}
use Rattle.gate_io.specs.declared.event.What.{What}
use Rattle.gate_io.specs.declared.event.What.TheVariants.{Opened, Bytes, End, Gone, Joined, Refused, Room, Clock, Stop}
use Rattle.gate_io.specs.Events.{Last}
use Rattle.gate_io.specs.Nature.{Nature}
use Rattle.live_sockets.specs.Keeping.{WasHeard}
use Rattle.live_sockets.specs.Looks.{AsksFirst}
use Rattle.live_sockets.specs.Calls.{BeginsIn, ConnectsIn}
use Rattle.live_lines.specs.Lines.{SentIn, ClosedIn}
use Rattle.live_sockets.specs.Notices.{CountsAnswer}
use Rattle.live_sockets.specs.Origins.{HasEnded}
use Rattle.live_lines.specs.Told.{LiesIn}
use Rattle.gate_live.specs.Logged.{LogState, Notices}
use Rattle.gate_live.specs.declared.live_world.LiveWorld.{LiveWorld}

-- the last event that was given
abbrev pub last_in : {R P : Type 0} → LiveWorld R P → Last
last_in w = record { now = w.now; stopped = w.stopped }

-- it has no script, and gives bytes only from where they are wanted
abbrev pub nature_of : {R P : Type 0} → LiveWorld R P → Nature
nature_of w = record { seed = w.seed; script = λ _. None; obeys = true; takes_whole = false; fails_no_call = false }

-- An event that a world gave was heard of the lines that it had, and its bytes are the first that lie in the room that was read into.
pub record Gives {R P : Type 0} (gave took : P → Option (List ℕ)) (old : LiveWorld R P) (what : What) (new : LiveWorld R P) : Type 0 where
  pub heard : WasHeard gave took old.sockets.lines.items what new.sockets.lines.items
  pub read : LiesIn new.sockets.room.bytes.items what

-- An event of a line is given less than half a millisecond after the last question to the system what is ready, by the clock as the call read it, and at most 64 are given after one.
abbrev pub Asks : {R P : Type 0} → LiveWorld R P → What → LiveWorld R P → Type 0
Asks old what new = AsksFirst what old.sockets.looks new.sockets.looks

-- the first n bytes of a piece go to a side of the line of this number, and nothing else of the lines of a world changes
abbrev pub Sends : {R P : Type 0} → (P → Option (List ℕ)) → (P → Option (List ℕ)) → LiveWorld R P → ℕ → Side → List ℕ → ℕ → LiveWorld R P → Type 0
Sends gave took old line side bytes n new = SentIn gave took old.sockets.lines.items line side bytes n new.sockets.lines.items

-- the line of this number is connected anew, or begins where it is a callout's, and nothing else of the lines of a world changes
abbrev pub Connects : {R P : Type 0} → LiveWorld R P → ℕ → LiveWorld R P → Type 0
Connects old line new = ConnectsIn old.sockets.lines.items line new.sockets.lines.items

-- and by a connection that gave and took nothing so far, or by none
abbrev pub Begins : {R P : Type 0} → (P → Option (List ℕ)) → (P → Option (List ℕ)) → LiveWorld R P → ℕ → LiveWorld R P → Type 0
Begins gave took old line new = BeginsIn gave took old.sockets.lines.items line new.sockets.lines.items

-- a connection of the line of this number is closed, and nothing else of the lines of a world changes
abbrev pub Closes : {R P : Type 0} → LiveWorld R P → ℕ → Side → LiveWorld R P → Type 0
Closes old line side new = ClosedIn old.sockets.lines.items line side new.sockets.lines.items

-- a world whose worker accepts accepts no line any more
abbrev pub AcceptsNone : {R P : Type 0} → LiveWorld R P → Type 0
AcceptsNone w = HasEnded w.sockets.origin

-- what a world knows of the log
abbrev pub log_in : {R P : Type 0} → LiveWorld R P → LogState R
log_in w = record { rt = w.rt; is_cut = w.is_cut; dropped = w.dropped }

-- A world that waits logs notices alone, one at most of each of the twelve kinds. The lines that were dropped before are counted among what is to be told.
abbrev pub LogsNotices : {R P : Type 0} → (R → Option (List ℕ)) → (R → Type 0) → LiveWorld R P → LiveWorld R P → Type 0
LogsNotices logged refuses old new = Notices logged refuses 12 (record { rt = old.rt; is_cut = old.is_cut; dropped = 0 }) (log_in new)

-- a line, where this is the side of its server
abbrev pub server_of_side : ℕ → Side → Option ℕ
server_of_side line Up = Some line
server_of_side line Down = None

-- the line of whose server an event brought bytes, or their end
abbrev pub server_of_what : What → Option ℕ
server_of_what (Bytes line side bytes) = server_of_side line side
server_of_what (End line side) = server_of_side line side
server_of_what (Opened line) = None
server_of_what (Gone line side) = None
server_of_what (Joined line) = None
server_of_what (Refused line) = None
server_of_what (Room line side) = None
server_of_what Clock = None
server_of_what Stop = None

-- the same of what a call for an event gave
abbrev pub server_of : Result Event WorldEnd → Option ℕ
server_of (Ok event) = server_of_what event.what
server_of (Err e) = None

-- bytes go to the client of the line of whose server the last event was
abbrev pub IsAnswer : Option ℕ → ℕ → Side → Type 0
IsAnswer answering line side = (side ≡ Down) × (answering ≡ Some line)

-- They are counted where they begin an answer 502, and no other bytes are.
abbrev pub Counts : {R P : Type 0} → LiveWorld R P → ℕ → Side → List ℕ → LiveWorld R P → Type 0
Counts old line side bytes new =
    (IsAnswer old.answering line side × CountsAnswer old.sockets.lines.items line bytes old.sockets.notices.counts new.sockets.notices.counts)
    ⊎ ((IsAnswer old.answering line side → ⊥) × (new.sockets.notices.counts ≡ old.sockets.notices.counts))
