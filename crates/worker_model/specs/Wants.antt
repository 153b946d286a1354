-- What a worker asks of its world: from which sides of which lines it takes bytes, and when it wants to be called at the latest.
use Rattle.std.specs.Prelude.{ℕ, zero, suc, ◌+◌, Bool, true, false, not, ◌&&◌, ◌||◌, slice_get, List, [], ◌∷◌, ◌++◌, map, filter, length, nat_lt, nat_le, Option, None, Some, if◌then◌else◌}
use Rattle.callouts.specs.Callouts.{line_of}
use Rattle.callouts.specs.declared.types.Callout.{Callout}
use Rattle.contexts.specs.declared.parts.Context.{Context}
use Rattle.contexts.specs.declared.parts.Tick.{Tick}
use Rattle.contexts.specs.Reached.{vm_in}
use Rattle.exchange.specs.declared.types.Exchange.{Exchange}
use Rattle.gate_io.specs.declared.event.Sent.{Sent}
use Rattle.gate_io.specs.declared.event.Side.{Side}
use Rattle.gate_io.specs.declared.event.Side.TheVariants.{Down, Up}
use Rattle.gate_io.specs.declared.passed.Wants.{Wants}
use Rattle.h1_model.specs.Unread.{Reading}
use Rattle.send_queue.specs.Places.{octets_in, marks_at}
use Rattle.send_queue.specs.declared.place.Destination.TheVariants.{Peer}
use Rattle.worker_model.specs.Room.{Room}
use Rattle.worker_model.specs.declared.types.Line.{Line}
use Rattle.worker_model.specs.Plan.{Plan}
use Rattle.worker_model.specs.Rooms.{is_dead}
use Rattle.worker_model.specs.Steps.{line_reading, at_most_last}
use Rattle.worker_model.specs.Turn.{registers_at, vms_in}

-- less than 65,536 bytes wait on a side of a line
abbrev pub has_room : List Sent → Side → Line → Bool
has_room waiting side line = nat_lt (octets_in (marks_at (Peer line.number side) waiting)) 65536

-- there is a connection, and less than 65,536 bytes of its text are unread
abbrev pub reads_more : Option Reading → Bool
reads_more None = false
reads_more (Some reading) = nat_lt (length reading.unread) 65536

abbrev pub is_up : Side → Bool
is_up Down = false
is_up Up = true

-- More of a request is taken where its response and the request itself have room. More of a response is taken where the response
-- has room: what waits for the server never keeps it from being read.
abbrev pub is_wanted : Side → List Sent → Line → Bool
is_wanted Down waiting line = (has_room waiting Down line && has_room waiting Up line) && reads_more (line_reading false (Some line))
is_wanted Up waiting line = has_room waiting Down line && reads_more (line_reading true (Some line))

abbrev pub wanted_of : Side → List Sent → List Line → List ℕ
wanted_of side waiting lines = map (λ line. line.number) (filter (is_wanted side waiting) lines)

-- ---- the moment at which something falls due

-- the earlier of two moments
abbrev pub earlier : Option ℕ → Option ℕ → Option ℕ
earlier None other = other
earlier (Some a) None = Some a
earlier (Some a) (Some b) = if nat_le a b then Some a else Some b

-- the earliest of these and of the roots
abbrev pub due_of : Option Tick → Option ℕ
due_of None = None
due_of (Some t) = Some t.due

abbrev pub with_ticks : Option ℕ → List Context → Option ℕ
with_ticks due [] = due
with_ticks due (c ∷ contexts) = with_ticks (earlier due (due_of c.tick)) contexts

-- the roots of the first so many VMs, but for those that are dead
abbrev pub ticks_up_to : Room → ℕ → Option ℕ
ticks_up_to room zero = None
ticks_up_to room (suc n) = if is_dead n room then ticks_up_to room n else with_ticks (ticks_up_to room n) (vm_in room.hub.contexts n).contexts

-- a response that is waited for
abbrev pub due_on : Option Exchange → Option ℕ
due_on None = None
due_on (Some x) = if x.is_headed || x.is_answered then None else x.due

abbrev pub with_lines : Option ℕ → List Line → Option ℕ
with_lines due [] = due
with_lines due (line ∷ lines) = with_lines (earlier due (due_on line.exchange)) lines

-- a callout that is under way
abbrev pub with_call_dues : Option ℕ → List Callout → Option ℕ
with_call_dues due [] = due
with_call_dues due (c ∷ calls) = with_call_dues (earlier due (Some c.due)) calls

-- ---- the lines of callouts

-- More of a response is taken while less than 65,536 bytes of it are unread. What waits keeps none from being read.
abbrev pub reads_call_more : Callout → Bool
reads_call_more c = reads_more (Some c.reader)

-- The line of a callout.
abbrev pub call_line : Callout → ℕ
call_line c = line_of c.id

-- The lines of those callouts of whose answer more can be read.
abbrev pub call_lines : List Callout → List ℕ
call_lines calls = map call_line (filter reads_call_more calls)

-- ---- all that a worker wants

-- a VM that is told of items, and is not dead, looks for notices each 50 milliseconds
abbrev pub looks_one : Plan → Room → ℕ → Bool
looks_one plan room n = registers_at (slice_get plan.registers n) && not (is_dead n room)

abbrev pub looks : Plan → Room → ℕ → Bool
looks plan room zero = false
looks plan room (suc n) = looks plan room n || looks_one plan room n

abbrev pub with_notices : Plan → Room → Option ℕ → Option ℕ
with_notices plan room due = if looks plan room (vms_in room) then earlier due (Some (at_most_last (room.hub.moment + 50000000))) else due

-- (before the first event nothing falls due)
abbrev pub due_in : Plan → Room → Option ℕ
due_in plan room =
    if room.is_begun
    then with_notices plan room (with_call_dues (with_lines (ticks_up_to room (vms_in room)) room.lines) room.calls)
    else None

abbrev pub wants_of : Plan → Room → List Sent → Wants
wants_of plan room waiting = record {
  down = wanted_of Down waiting room.lines;
  up = wanted_of Up waiting room.lines ++ call_lines room.calls;
  due = due_in plan room;
}
