-- WHAT A WORKER ASKS OF ITS WORLD, by its plan. Of a stream it takes bytes of the client where both sides have room, and bytes of the server where the
-- client has.
use Rattle.std.specs.Prelude.{ℕ, Bool, ◌&&◌, List, [], ◌∷◌, ◌++◌, map, filter, nat_lt}
use Rattle.gate_io.specs.declared.event.Sent.{Sent}
use Rattle.gate_io.specs.declared.event.Side.{Side}
use Rattle.gate_io.specs.declared.event.Side.TheVariants.{Down, Up}
use Rattle.gate_io.specs.declared.passed.Wants.{Wants}
use Rattle.send_queue.specs.Places.{octets_in, marks_at}
use Rattle.send_queue.specs.declared.place.Destination.TheVariants.{Peer}
use Rattle.worker_model.specs.Plan.{Plan}
use Rattle.worker_model.specs.Room.{Room}
use Rattle.worker_model.specs.Wants.{wanted_of, call_lines, due_in}
use Rattle.worker_model.specs.declared.types.TcpLine.{TcpLine}

-- less than 65,536 bytes wait on a side of a line
abbrev pub has_room : List Sent → Side → TcpLine → Bool
has_room waiting side l = nat_lt (octets_in (marks_at (Peer l.number side) waiting)) 65536

-- bytes of the client are taken
abbrev pub wants_down : List Sent → TcpLine → Bool
wants_down waiting l = has_room waiting Down l && has_room waiting Up l

-- bytes of the server are taken
abbrev pub wants_up : List Sent → TcpLine → Bool
wants_up waiting l = has_room waiting Down l && l.is_up

-- the number of a line
abbrev pub number_in : TcpLine → ℕ
number_in l = l.number

-- the lines whose clients' bytes are taken
abbrev pub down_of : List Sent → List TcpLine → List ℕ
down_of waiting lines = map number_in (filter (wants_down waiting) lines)

-- the lines whose servers' bytes are taken
abbrev pub up_of : List Sent → List TcpLine → List ℕ
up_of waiting lines = map number_in (filter (wants_up waiting) lines)

-- ---- by the list of plug-ins of streams; where it is empty, lines are of HTTP

-- the lines whose clients' bytes are taken
abbrev pub down_among : List ℕ → List Sent → Room → List ℕ
down_among [] waiting room = wanted_of Down waiting room.lines
down_among (p ∷ ps) waiting room = down_of waiting room.tcp

-- the lines whose servers' bytes are taken
abbrev pub up_among : List ℕ → List Sent → Room → List ℕ
up_among [] waiting room = wanted_of Up waiting room.lines
up_among (p ∷ ps) waiting room = up_of waiting room.tcp

-- WHAT A WORKER WANTS, by its plan
abbrev pub wants_for : Plan → Room → List Sent → Wants
wants_for plan room waiting = record {
  down = down_among plan.tcp waiting room;
  up = up_among plan.tcp waiting room ++ call_lines room.calls;
  due = due_in plan room;
}
