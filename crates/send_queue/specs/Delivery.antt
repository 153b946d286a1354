-- What a world takes of what is offered to it, and what waits.
use Rattle.std.specs.Prelude.{◌≡◌, ◌≢◌, ◌⊎◌, Bool, IsTrue, List, [], ◌∷◌, ◌++◌, Option, Result, OnOk}
use Rattle.gate_io.specs.Passing.{happened, received, asked}
use Rattle.gate_io.specs.Told.{Gains}
use Rattle.gate_io.specs.declared.event.Sent.{Sent}
use Rattle.gate_io.specs.declared.event.Sent.TheVariants.{Connect, Bytes, Close, Log}
use Rattle.gate_io.specs.declared.passed.Passed.{Passed}
use Rattle.gate_io.specs.declared.passed.Passed.TheVariants.{Asked, Gave, Took, Short}
use Rattle.send_queue.specs.Places.{marks_at, place_of}
use Rattle.send_queue.specs.declared.place.Destination.{Destination}
use Rattle.send_queue.specs.declared.place.Destination.TheVariants.{Peer}

-- a `send` to the place took less than its piece
abbrev pub WasShort : Destination → List Passed → Type 0
WasShort place [] = ⊥
WasShort place (Asked wants ∷ steps) = WasShort place steps
WasShort place (Gave event ∷ steps) = WasShort place steps
WasShort place (Took member ∷ steps) = WasShort place steps
WasShort place (Short line side ∷ steps) = (Peer line side ≡ place) ⊎ WasShort place steps

-- no `send` took less than its piece
abbrev pub NeverShort : List Passed → Type 0
NeverShort steps = (place : Destination) → WasShort place steps → ⊥

-- nothing was taken at the place, and no `send` to it took less than its piece
abbrev pub IsLeftAlone : Destination → List Passed → Type 0
IsLeftAlone place [] = Unit {0}
IsLeftAlone place (Asked wants ∷ steps) = IsLeftAlone place steps
IsLeftAlone place (Gave event ∷ steps) = IsLeftAlone place steps
IsLeftAlone place (Took member ∷ steps) = (place_of member ≡ place → ⊥) × IsLeftAlone place steps
IsLeftAlone place (Short line side ∷ steps) = (Peer line side ≡ place → ⊥) × IsLeftAlone place steps

-- after a `send` that took less than its piece nothing more was offered to its place
abbrev pub StopsAtShort : List Passed → Type 0
StopsAtShort [] = Unit {0}
StopsAtShort (Asked wants ∷ steps) = StopsAtShort steps
StopsAtShort (Gave event ∷ steps) = StopsAtShort steps
StopsAtShort (Took member ∷ steps) = StopsAtShort steps
StopsAtShort (Short line side ∷ steps) = IsLeftAlone (Peer line side) steps × StopsAtShort steps

-- the members but for empty pieces, of which a world takes none
abbrev pub solid : List Sent → List Sent
solid [] = []
solid (Connect line ∷ sent) = Connect line ∷ solid sent
solid (Bytes line side [] ∷ sent) = solid sent
solid (Bytes line side (byte ∷ bytes) ∷ sent) = Bytes line side (byte ∷ bytes) ∷ solid sent
solid (Close line side ∷ sent) = Close line side ∷ solid sent
solid (Log level text ∷ sent) = Log level text ∷ solid sent

-- the member is no empty piece
abbrev pub IsFilled : Sent → Type 0
IsFilled (Connect line) = Unit {0}
IsFilled (Bytes line side []) = ⊥
IsFilled (Bytes line side (byte ∷ bytes)) = Unit {0}
IsFilled (Close line side) = Unit {0}
IsFilled (Log level text) = Unit {0}

abbrev pub AreFilled : List Sent → Type 0
AreFilled [] = Unit {0}
AreFilled (member ∷ sent) = IsFilled member × AreFilled sent

-- where a `send` took less than its piece, something waits at its place
abbrev pub WaitsWhereShort : List Passed → List Sent → Type 0
WaitsWhereShort steps after = (place : Destination) → WasShort place steps → marks_at place after ≢ []

-- At each place a front of what was to go was received, and the rest of it waits. After a `send` that took less than its piece
-- nothing more was offered to its place, and something waits there. No event was asked for or given meanwhile.
pub record Delivered (before : List Sent) (steps : List Passed) (after : List Sent) : Type 0 where
  pub goes_on : (place : Destination) → marks_at place (received steps) ++ marks_at place after ≡ marks_at place before
  pub stops : StopsAtShort steps
  pub waits_short : WaitsWhereShort steps after
  pub no_event : happened steps ≡ []
  pub not_asked : asked steps ≡ []

-- Where nothing waited at a place, something waits there only where a `send` took less than its piece.
abbrev pub WaitsOnlyShort : List Sent → List Passed → List Sent → Type 0
WaitsOnlyShort waited steps after = (place : Destination) → marks_at place waited ≡ [] → (marks_at place after ≡ []) ⊎ WasShort place steps

-- Where nothing waited and no `send` took less than its piece, what was received is what was to go, member by member and in
-- order, and nothing waits.
abbrev pub GoesWhole : List Sent → List Sent → List Passed → List Sent → Type 0
GoesWhole waited before steps after = waited ≡ [] → NeverShort steps → (received steps ≡ solid before) × (after ≡ [])

-- Nothing was held back.
pub record Prompt (waited before : List Sent) (steps : List Passed) (after : List Sent) : Type 0 where
  pub only_short : WaitsOnlyShort waited steps after
  pub whole : GoesWhole waited before steps after

-- where something waited at a place, nothing was offered to it, and something waits there still
abbrev pub WaitsBehind : List Sent → List Passed → List Sent → Type 0
WaitsBehind waited steps after = (place : Destination) → marks_at place waited ≢ [] → IsLeftAlone place steps × (marks_at place after ≢ [])

-- All that was to go was offered, after what waited. The world took some of it. After an Ok the rest waits. After an Err a
-- rest is lost. A world that takes each piece whole took no less.
pub record Offered {E : Type 0} (takes_whole : Bool) (old : Option (List Passed)) (waited before : List Sent) (result : Result (Unit {0}) E) (new : Option (List Passed))
    (after : List Sent) : Type 0 where
  pub steps : List Passed
  pub rest : List Sent
  pub told : Gains old steps new
  pub delivered : Delivered before steps rest
  pub behind : WaitsBehind waited steps rest
  pub taken_whole : IsTrue takes_whole → NeverShort steps
  pub waits : OnOk result ((rest ≡ after) × Prompt waited before steps rest)
