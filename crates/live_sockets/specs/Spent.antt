-- When nothing more comes to a worker, and when a moment has come.
use Rattle.std.specs.Prelude.{◌≡◌, ℕ, ◌<◌, ◌≤◌, Bool, true, false, IsTrue, [], Option, None, Some, IsSomeAnd}
use Rattle.gate_io.specs.declared.event.What.{What}
use Rattle.gate_io.specs.declared.event.What.TheVariants.{Opened, Bytes, End, Gone, Joined, Refused, Room, Clock, Stop}
use Rattle.live_sockets.specs.Origins.{is_done}
use Rattle.live_sockets.specs.declared.sockets.Sockets.{Sockets}

-- No line comes any more, none is left, and nothing lingers.
pub record IsSpent {P : Type 0} (sockets : Sockets P) : Type 0 where
  pub done : IsTrue (is_done sockets.origin)
  pub lines : sockets.lines.items ≡ []
  pub lingering : sockets.lingering.items ≡ []

-- Stop comes only where nothing more comes, and Clock only where the moment that was asked for has come by this one.
abbrev pub IsDue : {P : Type 0} → What → Option ℕ → ℕ → Sockets P → Type 0
IsDue Stop due now sockets = IsSpent sockets
IsDue Clock due now sockets = IsSomeAnd due (λ moment. moment ≤ now)
IsDue (Opened line) due now sockets = Unit {0}
IsDue (Bytes line side bytes) due now sockets = Unit {0}
IsDue (End line side) due now sockets = Unit {0}
IsDue (Gone line side) due now sockets = Unit {0}
IsDue (Joined line) due now sockets = Unit {0}
IsDue (Refused line) due now sockets = Unit {0}
IsDue (Room line side) due now sockets = Unit {0}

-- a moment that was asked for has not come by this one
abbrev pub IsBefore : Option ℕ → ℕ → Type 0
IsBefore None now = Unit {0}
IsBefore (Some due) now = now < due

-- WHAT HAPPENS TO A LINE comes at a moment at which nothing is due, whatever the clock says then: so in its turn no tick and no deadline comes in front of it,
-- and it finds its line, and the server's connection of that, as the turn before left them.
abbrev pub IsEarly : What → Option ℕ → ℕ → Type 0
IsEarly Stop due now = Unit {0}
IsEarly Clock due now = Unit {0}
IsEarly (Opened line) due now = IsBefore due now
IsEarly (Bytes line side bytes) due now = IsBefore due now
IsEarly (End line side) due now = IsBefore due now
IsEarly (Gone line side) due now = IsBefore due now
IsEarly (Joined line) due now = IsBefore due now
IsEarly (Refused line) due now = IsBefore due now
IsEarly (Room line side) due now = IsBefore due now

abbrev pub is_clock : What → Bool
is_clock Clock = true
is_clock Stop = false
is_clock (Opened line) = false
is_clock (Bytes line side bytes) = false
is_clock (End line side) = false
is_clock (Gone line side) = false
is_clock (Joined line) = false
is_clock (Refused line) = false
is_clock (Room line side) = false

-- an event of a line
abbrev pub IsOfLine : What → Type 0
IsOfLine Stop = ⊥
IsOfLine Clock = ⊥
IsOfLine (Opened line) = Unit {0}
IsOfLine (Bytes line side bytes) = Unit {0}
IsOfLine (End line side) = Unit {0}
IsOfLine (Gone line side) = Unit {0}
IsOfLine (Joined line) = Unit {0}
IsOfLine (Refused line) = Unit {0}
IsOfLine (Room line side) = Unit {0}
