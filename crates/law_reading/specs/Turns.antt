-- Turns of a worker, one after the other.
use Rattle.std.specs.Prelude.{◌≡◌, ℕ, true, List, [], ◌∷◌, map, is_some}
use Rattle.filter_host.specs.Called.{Calling}
use Rattle.filter_host.specs.Course.{ends, Met, Reaches}
use Rattle.gate_io.specs.declared.event.Event.{Event}
use Rattle.gate_io.specs.declared.event.What.{What}
use Rattle.worker_model.specs.Room as rooms
use Rattle.worker_model.specs.Plan.{Plan}
use Rattle.worker_model.specs.Rooms.{next_of}
use Rattle.worker_model.specs.Settling.{is_rest}
use Rattle.worker_model.specs.Steps.{Both, line_in}
use Rattle.worker_model.specs.Turn.{Outcome, turn}

-- one of them: the event, what its course met, and what it came to
pub record OneTurn (H : Type 0) : Type 0 where
  pub event : Event
  pub met : List Met
  pub end : Outcome H

-- each course meets that and comes to its end, and the next turn goes on from there
abbrev pub Turns : {H : Type 0} → Calling H → Plan → Both H → List (OneTurn H) → Both H → Type 0
Turns calling plan from [] to = to ≡ from
Turns calling plan from (t ∷ turns) to = Reaches (turn calling plan from t.event) t.met (ends t.end) × Turns calling plan t.end.state turns to

-- nothing is left to be done then
abbrev pub IsAtRest : rooms.Room → Type 0
IsAtRest room = is_rest (next_of room) ≡ true

-- each of them came to rest (as turns do that begin with less to do than a turn has steps)
abbrev pub AreWhole : {H : Type 0} → List (OneTurn H) → Type 0
AreWhole [] = Unit {0}
AreWhole (t ∷ turns) = IsAtRest t.end.state.room × AreWhole turns

-- what happened in them
abbrev pub events_of : {H : Type 0} → List (OneTurn H) → List What
events_of turns = map (λ (t : OneTurn _). t.event.what) turns

-- the line of a number is open after each of them
abbrev pub StaysOpen : {H : Type 0} → ℕ → List (OneTurn H) → Type 0
StaysOpen n [] = Unit {0}
StaysOpen n (t ∷ turns) = (is_some (line_in n t.end.state.room.lines) ≡ true) × StaysOpen n turns
