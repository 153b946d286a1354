-- Events of lines are neither Stop nor Clock.
use Rattle.std.proofs.Common.{ℕ, Option}
use Rattle.gate_io.specs.declared.event.What.{What}
use Rattle.gate_io.specs.declared.event.What.TheVariants.{Opened, Bytes, End, Gone, Joined, Refused, Room, Clock, Stop}
use Rattle.live_sockets.specs.Spent.{IsDue, IsOfLine}
use Rattle.live_lines.specs.Told.{IsOf}
use Rattle.live_sockets.specs.declared.sockets.Sockets.{Sockets}

pub line_of_event : (line : ℕ) (what : What) → IsOf line what → IsOfLine what
line_of_event line (Bytes l side bytes) h = tt
line_of_event line (End l side) h = tt
line_of_event line (Gone l side) h = tt
line_of_event line (Opened l) h = tt
line_of_event line (Joined l) h = tt
line_of_event line (Refused l) h = tt
line_of_event line (Room l side) h = tt
line_of_event line Clock h = h
line_of_event line Stop h = h

pub due_of_line : {P : Type 0} (what : What) (due : Option ℕ) (now : ℕ) (sockets : Sockets P) → IsOfLine what → IsDue what due now sockets
due_of_line (Bytes l side bytes) due now sockets h = tt
due_of_line (End l side) due now sockets h = tt
due_of_line (Gone l side) due now sockets h = tt
due_of_line (Opened l) due now sockets h = tt
due_of_line (Joined l) due now sockets h = tt
due_of_line (Refused l) due now sockets h = tt
due_of_line (Room l side) due now sockets h = tt
due_of_line Clock due now sockets h = absurd h
due_of_line Stop due now sockets h = absurd h
