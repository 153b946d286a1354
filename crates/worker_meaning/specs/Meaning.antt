-- THE MEANING OF A RUN: what one worker does at events, one after the other.
use Rattle.std.specs.Prelude.{◌≡◌, ℕ, List, [], ◌∷◌, ◌++◌, Option}
use Rattle.filter_host.specs.Called.{Calling}
use Rattle.filter_host.specs.Course.{Course, ends, then_do, Goes}
use Rattle.gate_io.specs.Told.{Gains}
use Rattle.gate_io.specs.declared.event.Event.{Event}
use Rattle.gate_io.specs.declared.passed.Passed.{Passed}
use Rattle.send_queue.specs.Turns.{OneTurn, Delivers, events_of}
use Rattle.store_model.specs.Made.{Made}
use Rattle.worker_model.specs.Plan.{Plan}
use Rattle.worker_model.specs.State.{Standing, rules_of}
use Rattle.worker_model.specs.Steps.{Both}
use Rattle.worker_model.specs.Turn.{Outcome}
use Rattle.streams_model.specs.Turn.{turn}
use Rattle.worker_model.specs.Turned.{one_turn}

-- what a run comes to: the state that it leaves, and its turns, each with its event and what it sends
pub record Run (H : Type 0) : Type 0 where
  pub state : Both H
  pub turns : List OneTurn

abbrev pub run : {H : Type 0} → Both H → List OneTurn → Run H
run state turns = record { state = state; turns = turns }

-- a turn, and then a run
abbrev pub first_turn : {H : Type 0} → Event → Outcome H → Run H → Run H
first_turn event end later = run later.state (one_turn event end.sent ∷ later.turns)

-- a run, and then a turn
abbrev pub last_turn : {H : Type 0} → Run H → Event → Outcome H → Run H
last_turn before event end = run end.state (before.turns ++ one_turn event end.sent ∷ [])

module _ {H : Type 0} (calling : Calling H) where
  -- from a state on: the turn at the first event, and then those at the others
  unfoldable pub means : Plan → Both H → List Event → Course (Run H)
  means plan state [] = ends (run state [])
  means plan state (event ∷ events) = then_do (turn calling plan state event) (λ end. then_do (means plan end.state events) (λ later. ends (first_turn event end later)))

  -- THE MEANING of events, from a standing on. A worker's number, its world's seed, its configuration and its machines are in its first
  -- standing; what the shared stores reply is in the course.
  abbrev pub meaning : Standing H → List Event → Course (Run H)
  meaning from events = means (rules_of from.setting) from.state events

  -- A RUN OF WHOLE TURNS: the turns are those that the events mean, with the replies of the shared stores, which it brought from s to t; and what
  -- they send was delivered, or waits
  pub record Means {S : Type 0} (performs : S → List Made → S → Type 0) (s : S) (old : Option (List Passed)) (from to : Standing H) (t : S) (new : Option (List Passed)) : Type 0 where
    pub turns : List OneTurn
    pub goes : Goes performs s (meaning from (events_of turns)) (ends (run to.state turns)) t
    pub setting_is : to.setting ≡ from.setting
    pub steps : List Passed
    pub told : Gains old steps new
    pub delivers : Delivers from.waiting turns steps to.waiting
