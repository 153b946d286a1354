-- TURNS OF A WORKER, one after the other, as data; and that a meaning is such turns.
use Rattle.std.specs.Prelude.{◌≡◌, List, [], ◌∷◌, map}
use Rattle.std.specs.List.{flat_map}
use Rattle.filter_host.specs.Called.{Calling}
use Rattle.filter_host.specs.Course.{ends, Met, Reaches}
use Rattle.gate_io.specs.declared.event.Event.{Event}
use Rattle.worker_model.specs.Plan.{Plan}
use Rattle.worker_model.specs.Steps.{Both}
use Rattle.worker_model.specs.Turn.{Outcome}
use Rattle.streams_model.specs.Turn.{turn}
use Rattle.worker_model.specs.Turned.{one_turn}
use Rattle.worker_meaning.specs.Meaning.{Run, means}

-- One turn: its event, what its course met (calls of shared stores with their replies, and what was read), and what it came to
pub record Turn (H : Type 0) : Type 0 where
  pub event : Event
  pub met : List Met
  pub end : Outcome H

-- The course of each turn meets that and comes to that end, and the next turn goes on from there. The last state is `to`.
abbrev pub Turns : {H : Type 0} → Calling H → Plan → Both H → List (Turn H) → Both H → Type 0
Turns calling plan from [] to = to ≡ from
Turns calling plan from (t ∷ turns) to = Reaches (turn calling plan from t.event) t.met (ends t.end) × Turns calling plan t.end.state turns to

-- THE TURNS OF A MEANING: they have its events, meet what it meets, come to its state, and send what it sends.
pub record TurnsOf {H : Type 0} (calling : Calling H) (plan : Plan) (from : Both H) (events : List Event) (met : List Met) (r : Run H) : Type 0 where
  pub turns : List (Turn H)
  pub chain : Turns calling plan from turns r.state
  pub events_are : map (λ (t : Turn H). t.event) turns ≡ events
  pub met_is : flat_map (λ (t : Turn H). t.met) turns ≡ met
  pub sends : map (λ (t : Turn H). one_turn t.event t.end.sent) turns ≡ r.turns

-- A MEANING IS TURNS, whatever events it is of, wherever it begins, and whatever the stores reply.
abbrev pub MeaningsAreTurns : (H : Type 0) → Type 0
MeaningsAreTurns H =
    (calling : Calling H) (plan : Plan) (from : Both H) (events : List Event) (met : List Met) (r : Run H) → Reaches (means calling plan from events) met (ends r)
    → TurnsOf calling plan from events met r
