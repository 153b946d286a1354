-- What each call on a world adds to what passed, and the lists that are read off it.
use Rattle.std.specs.Prelude.{ℕ, ◌+◌, List, [], ◌∷◌, ◌++◌, length, take, Option, None, Some, Result, Ok, Err, if◌then◌else◌, nat_lt}
use Rattle.gate_io.specs.declared.ends.WorldEnd.{WorldEnd}
use Rattle.gate_io.specs.declared.ends.WorldEnd.TheVariants.{Failed, OutOfMemory}
use Rattle.gate_io.specs.declared.event.Event.{Event}
use Rattle.gate_io.specs.declared.event.Sent.{Sent}
use Rattle.gate_io.specs.declared.event.Sent.TheVariants.{Bytes}
use Rattle.gate_io.specs.declared.event.Side.{Side}
use Rattle.gate_io.specs.declared.passed.Passed.{Passed}
use Rattle.gate_io.specs.declared.passed.Passed.TheVariants.{Asked, Gave, Took, Short}
use Rattle.gate_io.specs.declared.passed.Wants.{Wants}

-- a call of `next`: what was asked, and the event that was given, if any; nothing where memory ran out
abbrev pub asking : Wants → Result Event WorldEnd → List Passed
asking wants (Ok event) = Asked wants ∷ Gave event ∷ []
asking wants (Err Failed) = Asked wants ∷ []
asking wants (Err OutOfMemory) = []

-- bytes that were taken: no member where there are none
abbrev pub piece : ℕ → Side → List ℕ → List Passed
piece line side [] = []
piece line side (b ∷ bytes) = Took (Bytes line side (b ∷ bytes)) ∷ []

-- the first n bytes were taken, with a note where these are less than all
abbrev pub front : ℕ → Side → List ℕ → ℕ → List Passed
front line side bytes n = piece line side (take n bytes) ++ (if nat_lt n (length bytes) then Short line side ∷ [] else [])

-- a call of `send`
abbrev pub sending : {E : Type 0} → ℕ → Side → List ℕ → Result ℕ E → List Passed
sending line side bytes (Ok n) = front line side bytes n
sending line side bytes (Err e) = []

-- a call that is answered or refused as a whole
abbrev pub taking : {T E : Type 0} → Sent → Result T E → List Passed
taking sent (Ok x) = Took sent ∷ []
taking sent (Err e) = []

-- the events that were given
abbrev pub happened : List Passed → List Event
happened [] = []
happened (Asked wants ∷ trace) = happened trace
happened (Gave event ∷ trace) = event ∷ happened trace
happened (Took sent ∷ trace) = happened trace
happened (Short line side ∷ trace) = happened trace

-- what was taken
abbrev pub received : List Passed → List Sent
received [] = []
received (Asked wants ∷ trace) = received trace
received (Gave event ∷ trace) = received trace
received (Took sent ∷ trace) = sent ∷ received trace
received (Short line side ∷ trace) = received trace

-- what was asked for
abbrev pub asked : List Passed → List Wants
asked [] = []
asked (Asked wants ∷ trace) = wants ∷ asked trace
asked (Gave event ∷ trace) = asked trace
asked (Took sent ∷ trace) = asked trace
asked (Short line side ∷ trace) = asked trace

-- A call of `send` that took less than its piece: the peer, and how many events had been given by then.
pub record Shortfall : Type 0 where
  pub line : ℕ
  pub side : Side
  pub given : ℕ

-- these, where n events were given before
abbrev pub short_from : ℕ → List Passed → List Shortfall
short_from n [] = []
short_from n (Asked wants ∷ trace) = short_from n trace
short_from n (Gave event ∷ trace) = short_from (n + 1) trace
short_from n (Took sent ∷ trace) = short_from n trace
short_from n (Short line side ∷ trace) = record { line = line; side = side; given = n } ∷ short_from n trace

abbrev pub short : List Passed → List Shortfall
short trace = short_from 0 trace

-- what was taken in one step
abbrev pub sent_in : Passed → Option Sent
sent_in (Asked wants) = None
sent_in (Gave event) = None
sent_in (Took sent) = Some sent
sent_in (Short line side) = None
