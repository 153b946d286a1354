-- WHAT A WORKER DOES AT AN EVENT, by its plan: the steps of streams where the list of their plug-ins is not empty, and else those of HTTP.
use Rattle.std.specs.Prelude.{ℕ, Bool, true, false, List, [], ◌∷◌}
use Rattle.filter_host.specs.Called.{Calling}
use Rattle.filter_host.specs.Course.{Course, ends, then_do}
use Rattle.gate_io.specs.Events.{is_stop}
use Rattle.gate_io.specs.declared.event.Event.{Event}
use Rattle.worker_model.specs.Plan.{Plan}
use Rattle.worker_model.specs.Room.{Room}
use Rattle.worker_model.specs.Rooms as http
use Rattle.worker_model.specs.Settling as http_settling
use Rattle.worker_model.specs.Steps.{Both}
use Rattle.worker_model.specs.Turn.{Outcome, outcome, outcome_of, room_for_event, most_steps}
use Rattle.worker_model.specs.declared.types.Next.{Next}
use Rattle.streams_model.specs.Rooms.{next_of}
use Rattle.streams_model.specs.Settling.{settling}

-- what host calls are told of the lines: they are streams
abbrev pub as_streams : Room → Room
as_streams room = http.with_contexts (record room.hub.contexts { is_tcp = true }) room

-- what is next, by the list of plug-ins of streams
abbrev pub next_among : List ℕ → Room → Next
next_among [] room = http.next_of room
next_among (p ∷ ps) room = next_of room

-- WHAT IS NEXT, by a plan
abbrev pub next_for : Plan → Room → Next
next_for plan room = next_among plan.tcp room

module _ {H : Type 0} (calling : Calling H) (plan : Plan) where
  -- at most so many steps of streams, where host calls are told that lines are streams
  abbrev pub settles : ℕ → H → Room → Course (Both H)
  settles most host room = settling calling plan most host (as_streams room)

  -- so many steps, by the list of plug-ins of streams
  abbrev pub settles_among : List ℕ → ℕ → H → Room → Course (Both H)
  settles_among [] most host room = http_settling.settling calling plan most host room
  settles_among (p ∷ ps) most host room = settles most host room

  -- AT MOST SO MANY STEPS, by the plan
  abbrev pub settles_for : ℕ → H → Room → Course (Both H)
  settles_for most host room = settles_among plan.tcp most host room

  -- the course of an event that is not Stop
  abbrev pub turned : Both H → Event → Course (Outcome H)
  turned state event = then_do (settles_for most_steps state.host (room_for_event plan event state.room)) (λ b. ends (outcome_of b))

  -- at Stop nothing is done
  abbrev pub turn_by : (stop : Bool) → Both H → Event → Course (Outcome H)
  turn_by true state event = ends (outcome state [])
  turn_by false state event = turned state event

  -- THE TURN THAT A PLAN SAYS
  abbrev pub turn : Both H → Event → Course (Outcome H)
  turn state event = turn_by (is_stop event.what) state event
