-- HOW MUCH WAITS FROM TURN TO TURN, by whole turns that a worker's code takes, where its world gives only what it was asked for. So it is of lines of HTTP and of streams
-- of bytes alike.
use Rattle.std.specs.Prelude.{◌≡◌, ℕ, ◌+◌, ◌<◌, ◌≤◌, Bool, true, false, List, [], ◌∷◌, Option}
use Rattle.callouts.specs.Callouts.{is_call_line}
use Rattle.filter_host.specs.Called.{Calling}
use Rattle.gate_io.specs.Events.{Last}
use Rattle.gate_io.specs.declared.event.Event.{Event}
use Rattle.gate_io.specs.declared.event.Sent.{Sent}
use Rattle.gate_io.specs.declared.event.Side.{Side}
use Rattle.gate_io.specs.declared.event.Side.TheVariants.{Down, Up}
use Rattle.gate_io.specs.declared.event.What.{What}
use Rattle.gate_io.specs.declared.event.What.TheVariants.{Opened, Bytes, End, Gone, Joined, Refused, Room, Clock, Stop}
use Rattle.gate_io.specs.declared.passed.Passed.{Passed}
use Rattle.send_queue.specs.Turns.{OneTurn, all_sent}
use Rattle.store_model.specs.Made.{Made}
use Rattle.worker_model.specs.State.{Standing}
use Rattle.worker_model.specs.Turned.{Heard, one_turn}
use Rattle.streams_model.specs.Turned.{Whole, worker_wants}
use Rattle.law_turns.specs.Backlog.{FitsBacklog, backlog}

-- THE EVENT OF A TURN comes where little waits: of what waits when the turn begins, which is what the worker asks by. However a turn ended, its event was heard so
-- (`HeardIn`), where it had one.
abbrev pub EventsFit : Type 0 → Type 0
EventsFit H = (from : Standing H) (before after : Last) (event : Event) → Heard true (worker_wants from) before after event → FitsBacklog from.waiting event.what

-- A turn's event comes where little waits, and after the turn on each side of each line no more waits than did in front of it and the turn sends there.
pub record KeepsBacklog {H : Type 0} (from : Standing H) (event : Event) (sent : List Sent) (to : Standing H) : Type 0 where
  pub fits : FitsBacklog from.waiting event.what
  pub behind : (line : ℕ) (side : Side) → backlog line side to.waiting ≤ backlog line side from.waiting + backlog line side sent

-- Of bytes that came it is said how much waits later, where these were sent since.
abbrev pub WaitsSince : List Sent → List Sent → What → Type 0
WaitsSince sent waiting (Opened line) = Unit {0}
WaitsSince sent waiting (Bytes line Down bytes) = (backlog line Down waiting < 65536 + backlog line Down sent) × (backlog line Up waiting < 65536 + backlog line Up sent)
WaitsSince sent waiting (Bytes line Up bytes) = is_call_line line ≡ false → backlog line Down waiting < 65536 + backlog line Down sent
WaitsSince sent waiting (End line side) = Unit {0}
WaitsSince sent waiting (Gone line side) = Unit {0}
WaitsSince sent waiting (Joined line) = Unit {0}
WaitsSince sent waiting (Refused line) = Unit {0}
WaitsSince sent waiting (Room line side) = Unit {0}
WaitsSince sent waiting Clock = Unit {0}
WaitsSince sent waiting Stop = Unit {0}

module _ {H S : Type 0} (calling : Calling H) (performs : S → List Made → S → Type 0) where
  -- whole turns one after the other, of each of which the event came from a world that keeps to what it is asked for: from this standing to that
  pub data Obeyed : Standing H → List OneTurn → Standing H → Type 0 where
    no_turn : (from : Standing H) → Obeyed from [] from
    a_turn : (stop : Bool) (before after : Last) (s t : S) (old new : Option (List Passed)) (from mid to : Standing H) (turns : List OneTurn) → (w : Whole calling performs stop s old from mid t new)
        → Heard true (worker_wants from) before after w.event → Obeyed mid turns to → Obeyed from (one_turn w.event w.sent ∷ turns) to

-- THE BACKLOG OVER TURNS: of one that ended well, what its event comes to and what waits after it; and of more after one in which bytes came, that less than 65,536
-- bytes wait after the last of them besides what was sent since those bytes came.
pub record BacklogIsKept (H S : Type 0) (performs : S → List Made → S → Type 0) : Type 0 where
  pub turn : (calling : Calling H) (stop : Bool) (before after : Last) (s t : S) (old new : Option (List Passed)) (from to : Standing H) (w : Whole calling performs stop s old from to t new)
      → Heard true (worker_wants from) before after w.event → KeepsBacklog from w.event w.sent to
  pub since : (calling : Calling H) (from to : Standing H) (turn : OneTurn) (turns : List OneTurn) → Obeyed calling performs from (turn ∷ turns) to
      → WaitsSince (all_sent (turn ∷ turns)) to.waiting turn.event.what
