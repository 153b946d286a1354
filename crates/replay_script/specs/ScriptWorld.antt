-- What the world of a script is: all that passed, and the events that are left.
use Rattle.std.specs.Prelude.{◌≡◌, ℕ, List, [], ◌∷◌, ◌++◌, drop, None}
use Rattle.gate_io.specs.declared.event.Event.{Event}
use Rattle.gate_io.specs.declared.event.Sent.{Sent}
use Rattle.gate_io.specs.declared.passed.Passed.{Passed}
use Rattle.gate_io.specs.declared.passed.Passed.TheVariants.{Asked, Gave, Took, Short}
use Rattle.gate_io.specs.declared.passed.Wants.{Wants}
use Rattle.gate_io.specs.Events.{Last, AreInOrder, last_of, nothing_given}
use Rattle.gate_io.specs.MemoryWorld.{MemoryWorld, nature_of}
use Rattle.gate_io.specs.Nature.{Nature}
use Rattle.gate_io.specs.Passing.{happened}

-- all that passed, and the events that are left
pub record Playing : Type 0 where
  pub trace : List Passed
  pub left : List Event

-- as it is made of events
abbrev pub fresh : List Event → Playing
fresh events = record { trace = []; left = events }

-- the seed: 32 zero bytes
abbrev pub zero_seed : List ℕ
zero_seed =
    0 ∷ 0 ∷ 0 ∷ 0 ∷ 0 ∷ 0 ∷ 0 ∷ 0 ∷ 0 ∷ 0 ∷ 0 ∷ 0 ∷ 0 ∷ 0 ∷ 0 ∷ 0
    ∷ 0 ∷ 0 ∷ 0 ∷ 0 ∷ 0 ∷ 0 ∷ 0 ∷ 0 ∷ 0 ∷ 0 ∷ 0 ∷ 0 ∷ 0 ∷ 0 ∷ 0 ∷ 0 ∷ []

-- the world in memory that gives the same events, takes all of each piece and fails no call
abbrev pub in_memory : Playing → MemoryWorld
in_memory w = record { seed = zero_seed; trace = w.trace; left = w.left; most = None; fails = []; calls = 0; faults = 0; refused = []; sends = 0 }

-- what never changes is what never changes of that world
abbrev pub nature : Playing → Nature
nature w = nature_of (in_memory w)

-- the last event that it gave
abbrev pub last : Playing → Last
last w = last_of nothing_given (happened w.trace)

-- it gave an event
abbrev pub went_on : Playing → Wants → Event → Playing
went_on w wants event = record { trace = w.trace ++ Asked wants ∷ Gave event ∷ []; left = drop 1 w.left }

-- it took what is noted in these steps
abbrev pub took_more : Playing → List Passed → Playing
took_more w steps = record w { trace = w.trace ++ steps }

-- what was taken after the last event, where this was taken before these steps
abbrev pub taken_behind : List Sent → List Passed → List Sent
taken_behind before [] = before
taken_behind before (Asked wants ∷ trace) = taken_behind before trace
taken_behind before (Gave event ∷ trace) = taken_behind [] trace
taken_behind before (Took sent ∷ trace) = taken_behind (before ++ sent ∷ []) trace
taken_behind before (Short line side ∷ trace) = taken_behind before trace

-- what was taken since the last event was given
abbrev pub taken_since : List Passed → List Sent
taken_since trace = taken_behind [] trace

-- What the world keeps is that of its trace: the moment of the last event, after which those that are left may come, and
-- what was taken since.
pub record IsInStep (now : ℕ) (taken : List Sent) (trace : List Passed) (left : List Event) : Type 0 where
  pub moment : now ≡ (last_of nothing_given (happened trace)).now
  pub order : AreInOrder (last_of nothing_given (happened trace)) left
  pub kept : taken ≡ taken_since trace
