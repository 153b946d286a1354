-- The order of events, and which of them a worker asked for.
use Rattle.std.specs.Prelude.{◌≡◌, ℕ, ◌≤◌, Bool, true, false, IsTrue, List, [], ◌∷◌, ◌++◌, length, Contains, Result, Ok, Err, refl}
use Rattle.gate_io.specs.declared.event.Event.{Event}
use Rattle.gate_io.specs.declared.event.Side.{Side}
use Rattle.gate_io.specs.declared.event.Side.TheVariants.{Down, Up}
use Rattle.gate_io.specs.declared.event.What.{What}
use Rattle.gate_io.specs.declared.event.What.TheVariants.{Opened, Bytes, End, Gone, Joined, Refused, Room, Clock, Stop}
use Rattle.gate_io.specs.declared.passed.Wants.{Wants}

-- The last event that was given: its moment, and whether it was Stop.
pub record Last : Type 0 where
  pub now : ℕ
  pub stopped : Bool

-- before the first event
abbrev pub nothing_given : Last
nothing_given = record { now = 0; stopped = false }

abbrev pub is_stop : What → Bool
is_stop (Opened line) = false
is_stop (Bytes line side bytes) = false
is_stop (End line side) = false
is_stop (Gone line side) = false
is_stop (Joined line) = false
is_stop (Refused line) = false
is_stop (Room line side) = false
is_stop Clock = false
is_stop Stop = true

abbrev pub given : Event → Last
given event = record { now = event.now; stopped = is_stop event.what }

-- after a call of `next`
abbrev pub after_next : {E : Type 0} → Last → Result Event E → Last
after_next last (Ok event) = given event
after_next last (Err e) = last

-- after these events
abbrev pub last_of : Last → List Event → Last
last_of last [] = last
last_of last (event ∷ events) = last_of (given event) events

-- bytes come in pieces of 1 to 16,384
abbrev pub IsSized : What → Type 0
IsSized (Opened line) = Unit {0}
IsSized (Bytes line side bytes) = (1 ≤ length bytes) × (length bytes ≤ 16384)
IsSized (End line side) = Unit {0}
IsSized (Gone line side) = Unit {0}
IsSized (Joined line) = Unit {0}
IsSized (Refused line) = Unit {0}
IsSized (Room line side) = Unit {0}
IsSized Clock = Unit {0}
IsSized Stop = Unit {0}

-- The event may come behind the last one: moments never fall, and Stop is followed by Stop alone.
pub record Follows (last : Last) (event : Event) : Type 0 where
  pub rises : last.now ≤ event.now
  pub stays : IsTrue last.stopped → event.what ≡ Stop
  pub sized : IsSized event.what

-- each of the events may come behind the one before it
abbrev pub AreInOrder : Last → List Event → Type 0
AreInOrder last [] = Unit {0}
AreInOrder last (event ∷ events) = Follows last event × AreInOrder (given event) events

pub last_of-append : (last : Last) (a b : List Event) → last_of last (a ++ b) ≡ last_of (last_of last a) b
last_of-append last [] b = refl
last_of-append last (event ∷ a) b = last_of-append (given event) a b

-- events in order, and more in order behind them
pub in_order_more : (last : Last) (a b : List Event) → AreInOrder last a → AreInOrder (last_of last a) b → AreInOrder last (a ++ b)
in_order_more last [] b first more = more
in_order_more last (event ∷ a) b first more = (first.0, in_order_more (given event) a b first.1 more)

-- the lines of which bytes are wanted from a side
abbrev pub wanted : Wants → Side → List ℕ
wanted wants Down = wants.down
wanted wants Up = wants.up

-- bytes come only from where they are wanted
abbrev pub Obeys : Wants → What → Type 0
Obeys wants (Opened line) = Unit {0}
Obeys wants (Bytes line side bytes) = Contains (wanted wants side) line
Obeys wants (End line side) = Unit {0}
Obeys wants (Gone line side) = Unit {0}
Obeys wants (Joined line) = Unit {0}
Obeys wants (Refused line) = Unit {0}
Obeys wants (Room line side) = Unit {0}
Obeys wants Clock = Unit {0}
Obeys wants Stop = Unit {0}
