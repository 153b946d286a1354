-- What the events that a world gave have to do with its script, and with the last event.
use Rattle.std.specs.Prelude.{◌≡◌, ℕ, ◌<◌, List, length, slice_get, Option, Some, IfSome}
use Rattle.gate_io.specs.declared.event.Event.{Event}
use Rattle.gate_io.specs.declared.passed.Passed.{Passed}
use Rattle.gate_io.specs.Events.{Last, last_of, nothing_given}
use Rattle.gate_io.specs.Passing.{happened}

-- the event is the script's next behind those that were given so far, where both are told
abbrev pub ComesNext : (ℕ → Option Event) → Option (List Passed) → Event → Type 0
ComesNext script trace event = IfSome trace (λ t. IfSome (script (length (happened t))) (λ next. event ≡ next))

-- each event that was given stands at its place of the script, where both are told
abbrev pub KeepTo : (ℕ → Option Event) → Option (List Passed) → Type 0
KeepTo script trace = IfSome trace (λ t. (k : ℕ) → k < length (happened t) → IfSome (script k) (λ event. slice_get (happened t) k ≡ Some event))

-- the last event is the last of what passed, where that is told
abbrev pub EndsAt : Option (List Passed) → Last → Type 0
EndsAt trace last = IfSome trace (λ t. last ≡ last_of nothing_given (happened t))
