-- What the connections of a line give and take in a call.
use Rattle.std.specs.Prelude.{◌≡◌, ◌⊎◌, ℕ, Bool, true, false, List, [], length, take, Option, None, Some, IsSome, IsSomeAnd, IfSome}
use Rattle.gate_io.specs.declared.event.Side.{Side}
use Rattle.gate_io.specs.declared.event.Side.TheVariants.{Down, Up}
use Rattle.gate_io.specs.declared.event.What.{What}
use Rattle.gate_io.specs.declared.event.What.TheVariants.{Opened, Bytes, End, Gone, Joined, Refused, Room, Clock, Stop}
use Rattle.gate_io.specs.Told.{Gains}
use Rattle.live_lines.specs.Told.{IsHeardFrom, IsLast}
use Rattle.live_lines.specs.Waiting.{GoesOn}
use Rattle.live_lines.specs.declared.line.SocketPair.{SocketPair}
use Rattle.live_lines.specs.declared.upstream.Upstream.{Upstream}

-- these bytes, where they are of the side that is asked for
abbrev pub of_side : Side → Side → List ℕ → List ℕ
of_side Down Down bytes = bytes
of_side Down Up bytes = []
of_side Up Down bytes = []
of_side Up Up bytes = bytes

-- the bytes of a side that an event brings
abbrev pub bytes_from : Side → What → List ℕ
bytes_from asked (Bytes line side bytes) = of_side asked side bytes
bytes_from asked (Opened line) = []
bytes_from asked (End line side) = []
bytes_from asked (Gone line side) = []
bytes_from asked (Joined line) = []
bytes_from asked (Refused line) = []
bytes_from asked (Room line side) = []
bytes_from asked Clock = []
bytes_from asked Stop = []

-- and none where there is no event
abbrev pub told_from : Side → Option What → List ℕ
told_from asked None = []
told_from asked (Some what) = bytes_from asked what

-- A connection tells that it gained these bytes. One that is let go brings none, and none comes to be.
abbrev pub GainsAt : {P : Type 0} → (P → Option (List ℕ)) → Option P → List ℕ → Option P → Type 0
GainsAt told None bytes new = (bytes ≡ []) × (new ≡ None)
GainsAt told (Some p) bytes None = bytes ≡ []
GainsAt told (Some p) bytes (Some q) = Gains (told p) bytes (told q)

-- the same of the connection to a server
abbrev pub GainsUp : {P : Type 0} → (P → Option (List ℕ)) → Option (Upstream P) → List ℕ → Option (Upstream P) → Type 0
GainsUp told None bytes new = (bytes ≡ []) × (new ≡ None)
GainsUp told (Some p) bytes None = bytes ≡ []
GainsUp told (Some p) bytes (Some q) = Gains (told p.peer) bytes (told q.peer)

-- a front of what waits for a server goes to it
abbrev pub GoesOnUp : {P : Type 0} → (P → Option (List ℕ)) → Option (Upstream P) → Option (Upstream P) → Type 0
GoesOnUp took None new = new ≡ None
GoesOnUp took (Some p) None = Unit {0}
GoesOnUp took (Some p) (Some q) = GoesOn (took p.peer) p.waiting [] (took q.peer) q.waiting

-- it is told that this connection of this line is gone, or was refused
abbrev pub TellsLast : ℕ → Side → Option What → Type 0
TellsLast line side told = IsSomeAnd told (λ what. IsLast what × IsHeardFrom line side what)

-- a connection stays, or is let go for this reason
abbrev pub StaysUnless : {A : Type 0} → Type 0 → Option A → Option A → Type 0
StaysUnless why None new = Unit {0}
StaysUnless why (Some p) None = why
StaysUnless why (Some p) (Some q) = Unit {0}

-- that a server was refused stands, or is told and then stands no more
abbrev pub RefusedUnless : ℕ → Bool → Option What → Bool → Type 0
RefusedUnless line old told new = (new ≡ old) ⊎ ((new ≡ false) × (told ≡ Some (Refused line)))

-- the connection of this side of a line is there
abbrev pub HasSide : {P : Type 0} → SocketPair P → Side → Type 0
HasSide line Down = IsSome line.down
HasSide line Up = IsSome line.up

-- an event may come of a line as it stands: of a connection that is there, or that a server was refused, where that is to be told
abbrev pub IsOfStanding : {P : Type 0} → SocketPair P → What → Type 0
IsOfStanding line (Bytes l side bytes) = HasSide line side
IsOfStanding line (End l side) = HasSide line side
IsOfStanding line (Gone l side) = HasSide line side
IsOfStanding line (Room l side) = HasSide line side
IsOfStanding line (Joined l) = HasSide line Up
IsOfStanding line (Refused l) = HasSide line Up ⊎ (line.refused ≡ true)
IsOfStanding line (Opened l) = ⊥
IsOfStanding line Clock = ⊥
IsOfStanding line Stop = ⊥

-- A line is heard: the bytes of the event are those that the connection of their side gave, no other bytes were given, and to the connections went
-- nothing but a front of what waits for the server. A connection is let go only with an event of it that says that it is gone or was refused, and
-- an event of a connection comes only where that is there.
pub record HeardOn {P : Type 0} (gave took : P → Option (List ℕ)) (old : SocketPair P) (told : Option What) (new : SocketPair P) : Type 0 where
  pub number : new.number ≡ old.number
  pub down : GainsAt gave old.down (told_from Down told) new.down
  pub up : GainsUp gave old.up (told_from Up told) new.up
  pub kept : GainsAt took old.down [] new.down
  pub goes_on : GoesOnUp took old.up new.up
  pub down_stays : StaysUnless (TellsLast old.number Down told) old.down new.down
  pub up_stays : StaysUnless (TellsLast old.number Up told) old.up new.up
  pub refused : RefusedUnless old.number old.refused told new.refused
  pub standing : IfSome told (IsOfStanding old)

-- A client takes the first n bytes of a piece. One that is not there takes all of them, and nothing comes of it.
abbrev pub TakesDown : {P : Type 0} → (P → Option (List ℕ)) → (P → Option (List ℕ)) → Option P → List ℕ → ℕ → Option P → Type 0
TakesDown gave took None bytes n new = (n ≡ length bytes) × (new ≡ None)
TakesDown gave took (Some p) bytes n None = ⊥
TakesDown gave took (Some p) bytes n (Some q) = Gains (took p) (take n bytes) (took q) × (gave q ≡ gave p)

-- A piece for a server goes after what waits for it. One that is not there takes it, and nothing comes of it.
abbrev pub TakesUp : {P : Type 0} → (P → Option (List ℕ)) → (P → Option (List ℕ)) → Option (Upstream P) → List ℕ → Option (Upstream P) → Type 0
TakesUp gave took None bytes new = new ≡ None
TakesUp gave took (Some p) bytes None = ⊥
TakesUp gave took (Some p) bytes (Some q) = GoesOn (took p.peer) p.waiting bytes (took q.peer) q.waiting × (gave q.peer ≡ gave p.peer)

-- the first n bytes of a piece go to this side of a line, and nothing else of it changes
abbrev pub SentOn : {P : Type 0} → (P → Option (List ℕ)) → (P → Option (List ℕ)) → SocketPair P → Side → List ℕ → ℕ → SocketPair P → Type 0
SentOn gave took old Down bytes n new =
    ((new.number ≡ old.number) × (new.refused ≡ old.refused)) × ((new.up ≡ old.up) × TakesDown gave took old.down bytes n new.down)
SentOn gave took old Up bytes n new =
    ((new.number ≡ old.number) × (new.refused ≡ old.refused)) × ((new.down ≡ old.down) × ((n ≡ length bytes) × TakesUp gave took old.up bytes new.up))
