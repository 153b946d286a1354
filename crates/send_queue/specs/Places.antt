-- Where a worker sends to, and what a list of members puts there.
use Rattle.std.specs.Prelude.{ℕ, ◌+◌, ◌≤◌, ◌==◌, ◌&&◌, Bool, true, false, List, [], ◌∷◌, ◌++◌, map, if◌then◌else◌}
use Rattle.gate_base.specs.declared.level.Level.{Level}
use Rattle.gate_io.specs.declared.event.Sent.{Sent}
use Rattle.gate_io.specs.declared.event.Sent.TheVariants.{Connect, Bytes, Close, Log}
use Rattle.gate_io.specs.declared.event.Side.{Side}
use Rattle.gate_io.specs.declared.event.Side.TheVariants.{Down, Up}
use Rattle.send_queue.specs.declared.place.Destination.{Destination}
use Rattle.send_queue.specs.declared.place.Destination.TheVariants.{Peer, Journal}

-- what a place gets, one after another: that its connection is opened, a byte, that it is closed, a line of the log
pub data Mark : Type 0 where
  opening : Mark
  octet : ℕ → Mark
  closing : Mark
  logged : Level → List ℕ → Mark

abbrev pub is_same_side : Side → Side → Bool
is_same_side Down Down = true
is_same_side Down Up = false
is_same_side Up Down = false
is_same_side Up Up = true

abbrev pub is_same_place : Destination → Destination → Bool
is_same_place (Peer line side) (Peer l s) = (line == l) && is_same_side side s
is_same_place (Peer line side) Journal = false
is_same_place Journal (Peer l s) = false
is_same_place Journal Journal = true

-- the place of a member: only an upstream connection is opened by a worker
abbrev pub place_of : Sent → Destination
place_of (Connect line) = Peer line Up
place_of (Bytes line side bytes) = Peer line side
place_of (Close line side) = Peer line side
place_of (Log level text) = Journal

-- the bytes of a piece, and none of another member
abbrev pub bytes_in : Sent → List ℕ
bytes_in (Connect line) = []
bytes_in (Bytes line side bytes) = bytes
bytes_in (Close line side) = []
bytes_in (Log level text) = []

-- what a member puts at its place
abbrev pub marks_in : Sent → List Mark
marks_in (Connect line) = opening ∷ []
marks_in (Bytes line side bytes) = map octet bytes
marks_in (Close line side) = closing ∷ []
marks_in (Log level text) = logged level text ∷ []

-- what a member puts at a place
abbrev pub marks_of : Destination → Sent → List Mark
marks_of place member = if is_same_place (place_of member) place then marks_in member else []

-- what a list puts at a place
abbrev pub marks_at : Destination → List Sent → List Mark
marks_at place [] = []
marks_at place (member ∷ sent) = marks_of place member ++ marks_at place sent

-- how many bytes there are among the marks
abbrev pub octets_in : List Mark → ℕ
octets_in [] = 0
octets_in (opening ∷ marks) = octets_in marks
octets_in (octet byte ∷ marks) = octets_in marks + 1
octets_in (closing ∷ marks) = octets_in marks
octets_in (logged level text ∷ marks) = octets_in marks

-- at least so many bytes wait on a side of a line that nothing more is read for it
abbrev pub IsFull : ℕ → Side → List Sent → Type 0
IsFull line side waiting = 65536 ≤ octets_in (marks_at (Peer line side) waiting)
