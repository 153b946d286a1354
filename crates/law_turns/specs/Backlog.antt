-- HOW MUCH WAITS, and how much is unread, when bytes come: what a worker asks of its world in worked rooms; and what follows where its world
-- gives only what it was asked for.
use Rattle.std.specs.Prelude.{◌≡◌, ℕ, zero, suc, ◌+◌, ◌==◌, ◌<◌, ◌≤◌, true, false, ◌&&◌, List, [], ◌∷◌, ◌++◌, length, map, Contains, Option, Some, None, codes, if◌then◌else◌}
use Rattle.exchange.specs.declared.types.Exchange.{Exchange}
use Rattle.filter_chain.specs.declared.item.Held.TheVariants as held
use Rattle.gate_io.specs.Events.{IsSized, Obeys}
use Rattle.gate_io.specs.declared.event.Sent.{Sent}
use Rattle.gate_io.specs.declared.event.Sent.TheVariants as to
use Rattle.gate_io.specs.declared.event.Side.{Side}
use Rattle.gate_io.specs.declared.event.Side.TheVariants.{Down, Up}
use Rattle.gate_io.specs.declared.event.What.{What}
use Rattle.gate_io.specs.declared.event.What.TheVariants.{Opened, Bytes, End, Gone, Joined, Refused, Room, Clock, Stop}
use Rattle.callouts.specs.Callouts.{is_call_line}
use Rattle.gate_io.specs.declared.passed.Wants.{Wants}
use Rattle.h1_model.specs.Unread.{Reading, new_reading, reading_with_bytes, Act, feeds, ends, hands, halts, Does}
use Rattle.send_queue.specs.Places.{is_same_side}
use Rattle.worker_model.specs.Plan.{Plan}
use Rattle.worker_model.specs.Steps.{line_in, line_reading, accept_line}
use Rattle.worker_model.specs.Wants.{is_up, reads_more, wants_of}
use Rattle.streams_model.specs.Wants.{wants_for}
use Rattle.worker_model.specs.Room as rooms
use Rattle.worker_model.specs.declared.types.Line.{Line}
use Rattle.law_turns.specs.Scenes.{filter_of, stage, exchange, line, room, contexts_with_roots, open_plan}

-- ---- what is asked for in worked rooms

-- a text of which this is unread
abbrev pub unread_of : List ℕ → Reading → Reading
unread_of text reading = record reading { unread = text }

-- an exchange at whose stages nothing waits, with a connection to the server
abbrev pub connected : Reading → Exchange
connected reading = record (exchange 0 (filter_of 0 true 2) (stage false 2 held.Nothing) (stage true 2 held.Nothing)) { reader = Some reading }

-- a line with an exchange and a connection to the server: so much of the client's text is unread, and so much of the server's
abbrev pub open_line : ℕ → List ℕ → List ℕ → Line
open_line number client server = record (line number (Some (connected (unread_of server (new_reading (Some (codes "GET"))))))) {
  requests = unread_of client (new_reading None);
}

abbrev pub one : List Line
one = open_line 1 [] [] ∷ []

abbrev pub two : List Line
two = open_line 1 [] [] ∷ open_line 2 [] [] ∷ []

-- where all of this waits
abbrev pub backlog_wants : List Line → List Sent → Wants
backlog_wants lines waiting = wants_of open_plan (room lines (contexts_with_roots [])) waiting

abbrev pub wants : List ℕ → List ℕ → Wants
wants down up = record { down = down; up = up; due = None }

-- From a side of a line bytes are asked for while 65,535 wait where they may lead to more, and no longer once 65,536 do.
pub record RoomExamples : Type 0 where
  pub no_line : backlog_wants [] [] ≡ wants [] []
  pub no_server : backlog_wants (line 1 None ∷ []) [] ≡ wants (1 ∷ []) []
  pub nothing : backlog_wants one [] ≡ wants (1 ∷ []) (1 ∷ [])
  pub room_down : (bytes : List ℕ) → length bytes ≡ 65535 → backlog_wants one (to.Bytes 1 Down bytes ∷ []) ≡ wants (1 ∷ []) (1 ∷ [])
  pub full_down : (bytes : List ℕ) → length bytes ≡ 65536 → backlog_wants one (to.Bytes 1 Down bytes ∷ []) ≡ wants [] []
  pub room_up : (bytes : List ℕ) → length bytes ≡ 65535 → backlog_wants one (to.Bytes 1 Up bytes ∷ []) ≡ wants (1 ∷ []) (1 ∷ [])
  pub full_up : (bytes : List ℕ) → length bytes ≡ 65536 → backlog_wants one (to.Bytes 1 Up bytes ∷ []) ≡ wants [] (1 ∷ [])
  -- a byte after so many on the same side, and one on the other side
  pub one_more : (bytes : List ℕ) → length bytes ≡ 65535 → backlog_wants one (to.Bytes 1 Down bytes ∷ to.Connect 1 ∷ to.Bytes 1 Down (codes "a") ∷ []) ≡ wants [] []
  pub one_beside : (bytes : List ℕ) → length bytes ≡ 65535 → backlog_wants one (to.Bytes 1 Up (codes "a") ∷ to.Bytes 1 Down bytes ∷ []) ≡ wants (1 ∷ []) (1 ∷ [])
  -- what waits on a line keeps no other from being read
  pub other_down : (bytes : List ℕ) → length bytes ≡ 65536 → backlog_wants two (to.Bytes 2 Down bytes ∷ []) ≡ wants (1 ∷ []) (1 ∷ [])
  pub other_up : (bytes : List ℕ) → length bytes ≡ 65536 → backlog_wants two (to.Bytes 1 Up bytes ∷ []) ≡ wants (2 ∷ []) (1 ∷ 2 ∷ [])

-- and while 65,535 bytes of its own text are unread
pub record TextExamples : Type 0 where
  pub client_short : (text : List ℕ) → length text ≡ 65535 → backlog_wants (open_line 1 text [] ∷ []) [] ≡ wants (1 ∷ []) (1 ∷ [])
  pub client_enough : (text : List ℕ) → length text ≡ 65536 → backlog_wants (open_line 1 text [] ∷ []) [] ≡ wants [] (1 ∷ [])
  pub server_short : (text : List ℕ) → length text ≡ 65535 → backlog_wants (open_line 1 [] text ∷ []) [] ≡ wants (1 ∷ []) (1 ∷ [])
  pub server_enough : (text : List ℕ) → length text ≡ 65536 → backlog_wants (open_line 1 [] text ∷ []) [] ≡ wants (1 ∷ []) []

-- ---- 128 lines are open at most

abbrev pub numbers_to : ℕ → List ℕ
numbers_to zero = []
numbers_to (suc n) = numbers_to n ++ suc n ∷ []

abbrev pub lines_to : ℕ → List Line
lines_to n = map (λ number. line number None) (numbers_to n)

-- line 200 comes where so many are open
abbrev pub comes_to : ℕ → rooms.Room
comes_to n = accept_line 200 (room (lines_to n) (contexts_with_roots []))

abbrev pub numbers_in : rooms.Room → List ℕ
numbers_in r = map (λ (l : Line). l.number) r.lines

pub record LineExamples : Type 0 where
  pub last : numbers_in (comes_to 127) ≡ numbers_to 127 ++ 200 ∷ []
  pub last_sends : (comes_to 127).hub.sent ≡ []
  pub beyond : numbers_in (comes_to 128) ≡ numbers_to 128
  pub beyond_sends : (comes_to 128).hub.sent ≡ to.Close 200 Down ∷ []
  pub all_asked : backlog_wants (lines_to 128) [] ≡ wants (numbers_to 128) []

-- ---- what waits, when bytes come

-- how many bytes of a member wait on a side of a line, and of all that waits
abbrev pub bytes_to : ℕ → Side → Sent → ℕ
bytes_to line side (to.Connect l) = 0
bytes_to line side (to.Bytes l s bytes) = if l == line && is_same_side s side then length bytes else 0
bytes_to line side (to.Close l s) = 0
bytes_to line side (to.Log level text) = 0

abbrev pub backlog : ℕ → Side → List Sent → ℕ
backlog line side [] = 0
backlog line side (member ∷ waiting) = bytes_to line side member + backlog line side waiting

-- Bytes of a client come where fewer than 65,536 wait for it and for the server on its line; bytes of a server, where fewer wait for its client. (Those that come for
-- a callout, on a line from 2^31 on, go to nobody.)
abbrev pub FitsBacklog : List Sent → What → Type 0
FitsBacklog waiting (Opened line) = Unit {0}
FitsBacklog waiting (Bytes line Down bytes) = (backlog line Down waiting < 65536) × (backlog line Up waiting < 65536)
FitsBacklog waiting (Bytes line Up bytes) = is_call_line line ≡ false → backlog line Down waiting < 65536
FitsBacklog waiting (End line side) = Unit {0}
FitsBacklog waiting (Gone line side) = Unit {0}
FitsBacklog waiting (Joined line) = Unit {0}
FitsBacklog waiting (Refused line) = Unit {0}
FitsBacklog waiting (Room line side) = Unit {0}
FitsBacklog waiting Clock = Unit {0}
FitsBacklog waiting Stop = Unit {0}

-- THE BACKLOG IS BOUNDED: an event that a worker asked for comes where little waits, be its lines HTTP or streams of bytes.
abbrev pub BacklogIsBounded : Type 0
BacklogIsBounded = (plan : Plan) (r : rooms.Room) (waiting : List Sent) (what : What) → Obeys (wants_for plan r waiting) what → FitsBacklog waiting what

-- ---- what is unread, when bytes come

-- no two lines have one number: each is the one that is found by its number
abbrev pub AreApart : List Line → Type 0
AreApart lines = (l : Line) → Contains lines l → line_in l.number lines ≡ Some l

-- The side of the line that bytes come from has a text, of which, with these bytes, so many are unread.
pub record HasUnread (lines : List Line) (number : ℕ) (side : Side) (bytes : List ℕ) : Type 0 where
  pub reading : Reading
  pub there : line_reading (is_up side) (line_in number lines) ≡ Some reading
  pub before : length reading.unread ≤ 65535
  pub behind : length (reading_with_bytes bytes reading).unread ≤ 81919

-- (Of a stream of bytes nothing is kept unread.)
abbrev pub UnreadIsBounded : Type 0
UnreadIsBounded =
    (plan : Plan) (r : rooms.Room) (waiting : List Sent) (number : ℕ) (side : Side) (bytes : List ℕ) → is_call_line number ≡ false → AreApart r.lines
    → Obeys (wants_of plan r waiting) (Bytes number side bytes) → IsSized (Bytes number side bytes) → HasUnread r.lines number side bytes

-- what is done with a reader is what a worker asks for: text comes only where more is wanted, in pieces of at most 16,384 bytes
abbrev pub IsAsked : Reading → Act → Type 0
IsAsked old (feeds bytes) = (reads_more (Some old) ≡ true) × (length bytes ≤ 16384)
IsAsked old ends = Unit {0}
IsAsked old (hands part) = Unit {0}
IsAsked old (halts why) = Unit {0}

abbrev pub DoesAsked : Reading → List Act → Reading → Type 0
DoesAsked old [] new = new ≡ old
DoesAsked old (act ∷ acts) new = (mid : Reading) × IsAsked old act × Does old act mid × DoesAsked mid acts new

-- A READER'S TEXT IS BOUNDED: whatever is done with it in this way, never more than 81,919 bytes are unread.
abbrev pub ReaderIsBounded : Type 0
ReaderIsBounded = (backlog_wants : Option (List ℕ)) (acts : List Act) (reading : Reading) → DoesAsked (new_reading backlog_wants) acts reading → length reading.unread ≤ 81919
