-- WHERE A PLAN HAS NO STREAMS, all is as worker_model says.
use Rattle.std.specs.Prelude.{◌≡◌, List, []}
use Rattle.filter_host.specs.Called.{Calling}
use Rattle.gate_io.specs.declared.event.Event.{Event}
use Rattle.gate_io.specs.declared.event.Sent.{Sent}
use Rattle.streams_model.specs.Turn.{turn, next_for}
use Rattle.streams_model.specs.Wants.{wants_for}
use Rattle.worker_model.specs.Plan.{Plan}
use Rattle.worker_model.specs.Room.{Room}
use Rattle.worker_model.specs.Rooms as http_rooms
use Rattle.worker_model.specs.Steps.{Both}
use Rattle.worker_model.specs.Turn as http_turn
use Rattle.worker_model.specs.Wants as http_wants

-- the turn, what is next in it, and what is wanted between turns
pub record IsHttpWithoutStreams (H : Type 0) : Type 0 where
  pub turn_is : (calling : Calling H) (plan : Plan) (state : Both H) (event : Event) → plan.tcp ≡ [] → turn calling plan state event ≡ http_turn.turn calling plan state event
  pub next_is : (plan : Plan) (room : Room) → plan.tcp ≡ [] → next_for plan room ≡ http_rooms.next_of room
  pub wants_are : (plan : Plan) (room : Room) (waiting : List Sent) → plan.tcp ≡ [] → wants_for plan room waiting ≡ http_wants.wants_of plan room waiting
