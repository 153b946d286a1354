-- Which connections stand, and the closes between two lives.
use Rattle.std.specs.Prelude.{◌≡◌, ◌==◌, ◌&&◌, ◌||◌, not, ℕ, suc, ◌+◌, ◌*◌, ◌≤◌, Bool, true, false, List, [], ◌∷◌, ◌++◌, Option, None, Some}
use Rattle.std.specs.List.{list_any}
use Rattle.gate_io.specs.Told.{Gains}
use Rattle.gate_io.specs.declared.event.Sent.{Sent}
use Rattle.gate_io.specs.declared.event.Sent.TheVariants as sents
use Rattle.gate_io.specs.declared.event.Side.{Side}
use Rattle.gate_io.specs.declared.event.Side.TheVariants.{Down, Up}
use Rattle.gate_io.specs.declared.event.What.{What}
use Rattle.gate_io.specs.declared.event.What.TheVariants as whats
use Rattle.gate_io.specs.declared.passed.Passed.{Passed}
use Rattle.gate_io.specs.declared.passed.Passed.TheVariants.{Asked, Gave, Took, Short}
use Rattle.fleet.specs.declared.watched.Connection.{Connection}

abbrev pub connection : ℕ → Side → Connection
connection line side = record { line = line; side = side }

abbrev pub is_side : Side → Side → Bool
is_side Down Down = true
is_side Down Up = false
is_side Up Down = false
is_side Up Up = true

abbrev pub is_one : Connection → Connection → Bool
is_one c d = (c.line == d.line) && is_side c.side d.side

-- whether the connection stands after an event: one to a client once its line is opened, and until it is gone. No event ends one to the server:
-- one that is gone or refused is to be closed too.
abbrev pub after_event : Connection → Bool → What → Bool
after_event c now (whats.Opened line) = now || is_one c (connection line Down)
after_event c now (whats.Bytes line side bytes) = now
after_event c now (whats.End line side) = now
after_event c now (whats.Gone line Down) = not (is_one c (connection line Down)) && now
after_event c now (whats.Gone line Up) = now
after_event c now (whats.Joined line) = now
after_event c now (whats.Refused line) = now
after_event c now (whats.Room line side) = now
after_event c now whats.Clock = now
after_event c now whats.Stop = now

-- after something was taken: one to the server once the world was told to make it; each until it is closed
abbrev pub after_sent : Connection → Bool → Sent → Bool
after_sent c now (sents.Connect line) = now || is_one c (connection line Up)
after_sent c now (sents.Bytes line side bytes) = now
after_sent c now (sents.Close line side) = not (is_one c (connection line side)) && now
after_sent c now (sents.Log level text) = now

abbrev pub after_step : Connection → Bool → Passed → Bool
after_step c now (Asked wants) = now
after_step c now (Gave event) = after_event c now event.what
after_step c now (Took sent) = after_sent c now sent
after_step c now (Short line side) = now

-- WHETHER A CONNECTION STANDS after all that passed
abbrev pub stands_from : Connection → Bool → List Passed → Bool
stands_from c now [] = now
stands_from c now (step ∷ steps) = stands_from c (after_step c now step) steps

abbrev pub stands : Connection → List Passed → Bool
stands c trace = stands_from c false trace

-- whether it is in a list
abbrev pub is_in : Connection → List Connection → Bool
is_in c list = list_any (is_one c) list

-- the list has those that stand, where that is told
abbrev pub AreStanding : Option (List Passed) → List Connection → Type 0
AreStanding None list = Unit {0}
AreStanding (Some trace) list = (c : Connection) → is_in c list ≡ stands c trace

-- no connection stands, where that is told
abbrev pub NothingStands : Option (List Passed) → Type 0
NothingStands None = Unit {0}
NothingStands (Some trace) = (c : Connection) → stands c trace ≡ false

abbrev pub IsClose : Sent → Type 0
IsClose (sents.Connect line) = ⊥
IsClose (sents.Bytes line side bytes) = ⊥
IsClose (sents.Close line side) = Unit {0}
IsClose (sents.Log level text) = ⊥

-- only closes were taken
abbrev pub AreCloses : List Passed → Type 0
AreCloses [] = Unit {0}
AreCloses (Asked wants ∷ steps) = ⊥
AreCloses (Gave event ∷ steps) = ⊥
AreCloses (Took sent ∷ steps) = IsClose sent × AreCloses steps
AreCloses (Short line side ∷ steps) = ⊥

-- one where it is so, and else none
abbrev pub one_if : Bool → ℕ
one_if true = 1
one_if false = 0

abbrev pub closed_by : Connection → Sent → Bool
closed_by c (sents.Connect line) = false
closed_by c (sents.Bytes line side bytes) = false
closed_by c (sents.Close line side) = is_one c (connection line side)
closed_by c (sents.Log level text) = false

-- HOW OFTEN A CONNECTION IS CLOSED in what passed
abbrev pub closes_of : Connection → List Passed → ℕ
closes_of c [] = 0
closes_of c (Asked wants ∷ steps) = closes_of c steps
closes_of c (Gave event ∷ steps) = closes_of c steps
closes_of c (Took sent ∷ steps) = one_if (closed_by c sent) + closes_of c steps
closes_of c (Short line side ∷ steps) = closes_of c steps

-- THE PLACE OF A CONNECTION AMONG THE CLOSES: lines rise, and the one to the server of a line comes before the one to its client
abbrev pub side_rank : Side → ℕ
side_rank Up = 0
side_rank Down = 1

abbrev pub rank : Connection → ℕ
rank c = 2 * c.line + side_rank c.side

-- what was taken is no close of a connection below this place
abbrev pub IsFrom : ℕ → Sent → Type 0
IsFrom low (sents.Connect line) = Unit {0}
IsFrom low (sents.Bytes line side bytes) = Unit {0}
IsFrom low (sents.Close line side) = low ≤ rank (connection line side)
IsFrom low (sents.Log level text) = Unit {0}

-- the first place after it
abbrev pub low_behind : ℕ → Sent → ℕ
low_behind low (sents.Connect line) = low
low_behind low (sents.Bytes line side bytes) = low
low_behind low (sents.Close line side) = suc (rank (connection line side))
low_behind low (sents.Log level text) = low

-- THE CLOSES RISE: none is of a connection below this place, and each is of one above those that are closed before it
abbrev pub AreRising : ℕ → List Passed → Type 0
AreRising low [] = Unit {0}
AreRising low (Asked wants ∷ steps) = AreRising low steps
AreRising low (Gave event ∷ steps) = AreRising low steps
AreRising low (Took sent ∷ steps) = IsFrom low sent × AreRising (low_behind low sent) steps
AreRising low (Short line side ∷ steps) = AreRising low steps

-- each connection that stood is closed once, or stands still; and no other is closed
abbrev pub SomeClosed : (trace steps : List Passed) → Type 0
SomeClosed trace steps = (c : Connection) → closes_of c steps + one_if (stands c (trace ++ steps)) ≡ one_if (stands c trace)

-- each connection that stood is closed once, and no other is closed
abbrev pub AllClosed : (trace steps : List Passed) → Type 0
AllClosed trace steps = (c : Connection) → closes_of c steps ≡ one_if (stands c trace)

-- the same of what passed after a trace, where that is told
abbrev pub Behind : (List Passed → List Passed → Type 0) → Option (List Passed) → List Passed → Type 0
Behind P None steps = Unit {0}
Behind P (Some trace) steps = P trace steps

-- What passed meanwhile, where that is told: closes alone, of connections that stood, each closed once or standing still; lines rise, and the server of
-- each comes before its client.
pub record Closes (old new : Option (List Passed)) : Type 0 where
  pub steps : List Passed
  pub closes : AreCloses steps
  pub some : Behind SomeClosed old steps
  pub rising : AreRising 0 steps
  pub told : Gains old steps new

-- ALL CONNECTIONS ARE CLOSED. What passed meanwhile, where that is told: closes alone, one of each connection that stood and none of any other; lines
-- rise, and the server of each comes before its client. So none stands after them.
pub record ClosesAll (old new : Option (List Passed)) : Type 0 where
  pub steps : List Passed
  pub closes : AreCloses steps
  pub all : Behind AllClosed old steps
  pub rising : AreRising 0 steps
  pub told : Gains old steps new
  pub none_stands : NothingStands new

-- ---- worked examples

abbrev pub opened : ℕ → Passed
opened line = Gave (record { now = 0; what = whats.Opened line })

abbrev pub gone : ℕ → Side → Passed
gone line side = Gave (record { now = 0; what = whats.Gone line side })

abbrev pub connected : ℕ → Passed
connected line = Took (sents.Connect line)

abbrev pub close_result : ℕ → Side → Passed
close_result line side = Took (sents.Close line side)

-- a client's line 3 was opened and its server connected, and of line 4 the client is gone and the server too
abbrev pub three_stand : List Passed
three_stand = opened 3 ∷ connected 3 ∷ opened 4 ∷ connected 4 ∷ gone 4 Down ∷ gone 4 Up ∷ []

pub record ClosingExamples : Type 0 where
  -- both sides of line 3 are closed, the server's first, and then the server's side of line 4
  pub each_once : ClosesAll (Some three_stand) (Some (three_stand ++ close_result 3 Up ∷ close_result 3 Down ∷ close_result 4 Up ∷ []))
  -- lines do not fall, and no client is closed before its server, where memory ran out either
  pub not_falling : ClosesAll (Some three_stand) (Some (three_stand ++ close_result 4 Up ∷ close_result 3 Up ∷ close_result 3 Down ∷ [])) → ⊥
  pub not_client_first : ClosesAll (Some three_stand) (Some (three_stand ++ close_result 3 Down ∷ close_result 3 Up ∷ close_result 4 Up ∷ [])) → ⊥
  pub other_order : ClosesAll (Some three_stand) (Some (three_stand ++ close_result 4 Up ∷ close_result 3 Down ∷ close_result 3 Up ∷ [])) → ⊥
  pub not_falling_cut : Closes (Some three_stand) (Some (three_stand ++ close_result 4 Up ∷ close_result 3 Up ∷ [])) → ⊥
  pub not_client_first_cut : Closes (Some three_stand) (Some (three_stand ++ close_result 3 Down ∷ close_result 3 Up ∷ [])) → ⊥
  -- none is left out where all are closed; some may be where memory ran out
  pub not_fewer : ClosesAll (Some three_stand) (Some (three_stand ++ close_result 3 Up ∷ close_result 3 Down ∷ [])) → ⊥
  pub fewer_cut : Closes (Some three_stand) (Some (three_stand ++ close_result 3 Up ∷ close_result 3 Down ∷ []))
  -- none is closed twice, none that does not stand, and nothing else passes
  pub not_twice : Closes (Some three_stand) (Some (three_stand ++ close_result 3 Up ∷ close_result 3 Up ∷ [])) → ⊥
  pub not_gone : Closes (Some three_stand) (Some (three_stand ++ close_result 4 Down ∷ [])) → ⊥
  pub not_never : Closes (Some three_stand) (Some (three_stand ++ close_result 5 Up ∷ [])) → ⊥
  pub not_connected : Closes (Some three_stand) (Some (three_stand ++ connected 5 ∷ [])) → ⊥
