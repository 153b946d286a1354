-- A TURN COMES TO REST, whatever the machines do, whatever the shared stores reply, and whatever is read.
use Rattle.std.specs.Prelude.{◌≡◌, ◌<◌, ◌≤◌, ◌↔◌, ◌⊎◌, ℕ, ◌+◌, true, false, List, [], ◌∷◌, Option, None, Some, position}
use Rattle.filter_host.specs.Called.{Calling}
use Rattle.filter_host.specs.Course.{ends, Met, Reaches}
use Rattle.exchange.specs.declared.types.Exchange.{Exchange}
use Rattle.filter_chain.specs.declared.item.Held.{Held}
use Rattle.filter_chain.specs.declared.item.Held.TheVariants as held
use Rattle.filter_chain.specs.declared.stage.Stage.{Stage}
use Rattle.gate_config.specs.declared.config.Config.{Config}
use Rattle.gate_io.specs.Events.{is_stop}
use Rattle.gate_io.specs.declared.event.Event.{Event}
use Rattle.worker_model.specs.Room.{Room}
use Rattle.worker_model.specs.declared.types.Line.{Line}
use Rattle.worker_model.specs.Making.{first_room}
use Rattle.worker_model.specs.Plan.{Plan}
use Rattle.worker_model.specs.Rooms.{has_move, is_over, is_released, next_of}
use Rattle.worker_model.specs.Settling.{settling, is_rest}
use Rattle.worker_model.specs.State.{Setting, rules_of}
use Rattle.worker_model.specs.Steps.{Both, step}
use Rattle.worker_model.specs.Turn.{Outcome, turn, room_for_event, most_steps}
use Rattle.law_rest.specs.Left.{work_left, AllFit, RoutesFit}

-- everything is at rest
abbrev pub IsAtRest : Room → Type 0
IsAtRest room = is_rest (next_of room) ≡ true

-- EACH STEP LEAVES LESS TO DO. Of a callback nothing is asked: it may list any effects, leave any contexts, or die.
abbrev pub StepsLeaveLess : (H : Type 0) → Type 0
StepsLeaveLess H =
    (calling : Calling H) (plan : Plan) (s : ℕ) (b c : Both H) (ms : List Met) → RoutesFit s plan.routes → AllFit s b.room.lines
    → is_rest (next_of b.room) ≡ false → Reaches (step calling plan (next_of b.room) b.host b.room) ms (ends c)
    → AllFit s c.room.lines × (work_left s c.room < work_left s b.room)

-- SO MANY STEPS COME TO REST, where what is left to do is below their number
abbrev pub StepsComeToRest : (H : Type 0) → Type 0
StepsComeToRest H =
    (calling : Calling H) (plan : Plan) (s n : ℕ) (b c : Both H) (ms : List Met) → RoutesFit s plan.routes → AllFit s b.room.lines
    → work_left s b.room < n → Reaches (settling calling plan n b.host b.room) ms (ends c) → AllFit s c.room.lines × IsAtRest c.room

-- THE BOUND CHANGES NOTHING above what is left to do: with more steps the same is met, and it comes to the same.
abbrev pub BoundsChangeNothing : (H : Type 0) → Type 0
BoundsChangeNothing H =
    (calling : Calling H) (plan : Plan) (s n k : ℕ) (b c : Both H) (ms : List Met) → RoutesFit s plan.routes → AllFit s b.room.lines
    → work_left s b.room < n
    → Reaches (settling calling plan n b.host b.room) ms (ends c) ↔ Reaches (settling calling plan (n + k) b.host b.room) ms (ends c)

-- THE STEPS ARE PAID, each by what it leaves less: what a number of steps comes to is come to in no more steps than there is less left then.
abbrev pub StepsArePaid : (H : Type 0) → Type 0
StepsArePaid H =
    (calling : Calling H) (plan : Plan) (s n : ℕ) (b c : Both H) (ms : List Met) → RoutesFit s plan.routes → AllFit s b.room.lines
    → Reaches (settling calling plan n b.host b.room) ms (ends c)
    → (k : ℕ) × (k + work_left s c.room ≤ work_left s b.room) × Reaches (settling calling plan k b.host b.room) ms (ends c)

-- ---- turns

-- A TURN AT WHOSE START LESS IS LEFT TO DO THAN A TURN HAS STEPS IS AT REST AT ITS END. Where the exchanges of a room fit at its start, they do
-- at its end, and so they do in the first room of a worker.
pub record TurnsComeToRest (H : Type 0) : Type 0 where
  pub at_rest : (calling : Calling H) (plan : Plan) (s : ℕ) (state : Both H) (event : Event) (ms : List Met) (end : Outcome H)
      → RoutesFit s plan.routes → AllFit s state.room.lines → is_stop event.what ≡ false
      → work_left s (room_for_event plan event state.room) < most_steps
      → Reaches (turn calling plan state event) ms (ends end) → IsAtRest end.state.room
  pub fits : (calling : Calling H) (plan : Plan) (s : ℕ) (state : Both H) (event : Event) (ms : List Met) (end : Outcome H)
      → RoutesFit s plan.routes → AllFit s state.room.lines → Reaches (turn calling plan state event) ms (ends end)
      → AllFit s end.state.room.lines
  pub first : (s : ℕ) (config : Config) (seed : List ℕ) → AllFit s (first_room config seed).lines
  -- no route of a configuration has more than 16 filters
  pub routes : (setting : Setting) → RoutesFit 16 (rules_of setting).routes

-- ---- any room

-- An exchange that was answered has no stages of its request left. (Each room of a worker keeps it so; at a stage that was left there, a piece that
-- is too large for it would be refused for ever.)
abbrev pub IsClear : Option Exchange → Type 0
IsClear None = Unit {0}
IsClear (Some x) = x.is_answered ≡ true → x.request ≡ []

abbrev pub AllClear : List Line → Type 0
AllClear [] = Unit {0}
AllClear (line ∷ lines) = IsClear line.exchange × AllClear lines

-- FROM EACH ROOM THERE IS A NUMBER OF STEPS, told by the configuration and the room alone, at which all is at rest, whatever the machines do.
abbrev pub RoomsComeToRest : (H : Type 0) → Type 0
RoomsComeToRest H =
    (plan : Plan) (room : Room) → AllClear room.lines
    → (n : ℕ) × ((calling : Calling H) (host : H) (k : ℕ) (ms : List Met) (c : Both H)
    → Reaches (settling calling plan (n + k) host room) ms (ends c) → IsAtRest c.room)

-- A stage is paused: it holds a head or trailers, which its filter has not let go on. (What it holds of a body stops nothing: more may come to it.)
abbrev pub IsPaused : Held → Type 0
IsPaused held.Nothing = ⊥
IsPaused (held.Head end) = Unit {0}
IsPaused (held.Body end) = ⊥
IsPaused (held.Trailers body) = Unit {0}

-- at each stage of a chain nothing waits, or it is paused
abbrev pub WaitWherePaused : List Stage → Type 0
WaitWherePaused [] = Unit {0}
WaitWherePaused (s ∷ stages) = ((s.waiting ≡ []) ⊎ IsPaused s.held) × WaitWherePaused stages

-- so it is in both directions of an exchange, and it has not ended
abbrev pub OpenRests : Option Exchange → Type 0
OpenRests None = Unit {0}
OpenRests (Some x) = (x.has_ended ≡ false) × WaitWherePaused x.request × WaitWherePaused x.response

abbrev pub AllRest : List Line → Type 0
AllRest [] = Unit {0}
AllRest (line ∷ lines) = OpenRests line.exchange × AllRest lines

-- WHAT REST IS: nothing is being read, no stage is to be asked, each stage at which an item waits is paused, no job is in hand, no context that waited
-- was released, no exchange has ended, and no part of the turn is left
pub record NothingIsLeft (room : Room) : Type 0 where
  pub reading : room.reading ≡ None
  pub moving : position has_move room.lines ≡ None
  pub paused : AllRest room.lines
  pub jobs : room.jobs ≡ []
  pub released : position (is_released room) room.waits ≡ None
  pub ended : position is_over room.lines ≡ None
  pub agenda : room.agenda ≡ []

abbrev pub RestIsRest : Type 0
RestIsRest = (room : Room) → IsAtRest room → NothingIsLeft room
