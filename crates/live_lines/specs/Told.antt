-- Which line and bytes an event tells of.
use Rattle.std.specs.Prelude.{◌≡◌, ℕ, List, [], length, take, Option, None, Some}
use Rattle.gate_io.specs.declared.event.Side.{Side}
use Rattle.gate_io.specs.declared.event.Side.TheVariants.{Down, Up}
use Rattle.gate_io.specs.declared.event.What.{What}
use Rattle.gate_io.specs.declared.event.What.TheVariants.{Opened, Bytes, End, Gone, Joined, Refused, Room, Clock, Stop}

-- what a read of this side of this line gave
abbrev pub IsReadOf : ℕ → Side → What → Type 0
IsReadOf line side (Bytes l s bytes) = (l ≡ line) × (s ≡ side)
IsReadOf line side (End l s) = (l ≡ line) × (s ≡ side)
IsReadOf line side (Gone l s) = (l ≡ line) × (s ≡ side)
IsReadOf line side (Opened l) = ⊥
IsReadOf line side (Joined l) = ⊥
IsReadOf line side (Refused l) = ⊥
IsReadOf line side (Room l s) = ⊥
IsReadOf line side Clock = ⊥
IsReadOf line side Stop = ⊥

-- an event of this line that is open
abbrev pub IsOf : ℕ → What → Type 0
IsOf line (Bytes l side bytes) = l ≡ line
IsOf line (End l side) = l ≡ line
IsOf line (Gone l side) = l ≡ line
IsOf line (Opened l) = ⊥
IsOf line (Joined l) = l ≡ line
IsOf line (Refused l) = l ≡ line
IsOf line (Room l side) = l ≡ line
IsOf line Clock = ⊥
IsOf line Stop = ⊥

-- an event of this connection of this line: what a read of it gave, of the client's that it has room again, of the server's that it was
-- joined or refused
abbrev pub IsHeardFrom : ℕ → Side → What → Type 0
IsHeardFrom line side (Bytes l s bytes) = (l ≡ line) × (s ≡ side)
IsHeardFrom line side (End l s) = (l ≡ line) × (s ≡ side)
IsHeardFrom line side (Gone l s) = (l ≡ line) × (s ≡ side)
IsHeardFrom line side (Room l s) = (l ≡ line) × ((s ≡ side) × (side ≡ Down))
IsHeardFrom line side (Joined l) = (l ≡ line) × (side ≡ Up)
IsHeardFrom line side (Refused l) = (l ≡ line) × (side ≡ Up)
IsHeardFrom line side (Opened l) = ⊥
IsHeardFrom line side Clock = ⊥
IsHeardFrom line side Stop = ⊥

-- an event after which its connection is let go
abbrev pub IsLast : What → Type 0
IsLast (Gone line side) = Unit {0}
IsLast (Refused line) = Unit {0}
IsLast (Opened line) = ⊥
IsLast (Bytes line side bytes) = ⊥
IsLast (End line side) = ⊥
IsLast (Joined line) = ⊥
IsLast (Room line side) = ⊥
IsLast Clock = ⊥
IsLast Stop = ⊥

-- its bytes are the first that lie in the room
abbrev pub LiesIn : List ℕ → What → Type 0
LiesIn room (Bytes line side bytes) = bytes ≡ take (length bytes) room
LiesIn room (Opened line) = Unit {0}
LiesIn room (End line side) = Unit {0}
LiesIn room (Gone line side) = Unit {0}
LiesIn room (Joined line) = Unit {0}
LiesIn room (Refused line) = Unit {0}
LiesIn room (Room line side) = Unit {0}
LiesIn room Clock = Unit {0}
LiesIn room Stop = Unit {0}

-- the bytes of an event
abbrev pub bytes_of : What → List ℕ
bytes_of (Bytes line side bytes) = bytes
bytes_of (Opened line) = []
bytes_of (End line side) = []
bytes_of (Gone line side) = []
bytes_of (Joined line) = []
bytes_of (Refused line) = []
bytes_of (Room line side) = []
bytes_of Clock = []
bytes_of Stop = []

-- and none where there is no event
abbrev pub bytes_told : Option What → List ℕ
bytes_told None = []
bytes_told (Some what) = bytes_of what
