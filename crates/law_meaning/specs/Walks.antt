-- WALKS: the steps of turns of a worker whose lines are HTTP, one after the other, as a list. A law on callbacks speaks of these steps.
use Rattle.std.specs.Prelude.{◌≡◌, true, false, List, [], ◌∷◌, ◌++◌, Option, None}
use Rattle.filter_host.specs.Called.{Calling}
use Rattle.filter_host.specs.Course.{ends, Met, Reaches}
use Rattle.gate_io.specs.Events.{is_stop}
use Rattle.gate_io.specs.declared.event.Event.{Event}
use Rattle.gate_io.specs.declared.event.Sent.{Sent}
use Rattle.std.specs.Prelude.{slice_get}
use Rattle.std.specs.List.{flat_map}
use Rattle.exchange.specs.declared.types.Hub.{Hub}
use Rattle.worker_model.specs.Moves.{asks_at}
use Rattle.worker_model.specs.Plan.{Plan}
use Rattle.worker_model.specs.Rooms.{next_of}
use Rattle.worker_model.specs.Settling.{is_rest}
use Rattle.worker_model.specs.Steps.{Both, both, step}
use Rattle.worker_model.specs.Turn.{Outcome, outcome_of, without_sent, room_for_event}
use Rattle.streams_model.specs.Turn.{turn}
use Rattle.worker_model.specs.Room.{Room}
use Rattle.worker_model.specs.declared.types.Asked.{Asked}
use Rattle.worker_model.specs.declared.types.Next.{Next}
use Rattle.worker_model.specs.declared.types.Next.TheVariants.{Read, Move, Work, Free, End, Begin, Rest}

-- One step: the state before it, what it met, and the state after it
pub record Step (H : Type 0) : Type 0 where
  pub before : Both H
  pub met : List Met
  pub after : Both H

-- Steps, each the one that is next, until a turn is at rest; and then the next turn, at any event but Stop
pub data Walk {H : Type 0} (calling : Calling H) (plan : Plan) : Both H → List (Step H) → Both H → Type 0 where
  stays : (b : Both H) → Walk calling plan b [] b
  steps : (b m e : Both H) (ms : List Met) (more : List (Step H)) → is_rest (next_of b.room) ≡ false → Reaches (step calling plan (next_of b.room) b.host b.room) ms (ends m)
      → Walk calling plan m more e → Walk calling plan b (record { before = b; met = ms; after = m } ∷ more) e
  turns : (b e : Both H) (event : Event) (more : List (Step H)) → is_rest (next_of b.room) ≡ true → is_stop event.what ≡ false
      → Walk calling plan (both b.host (room_for_event plan event (without_sent b.room))) more e → Walk calling plan b more e

-- The callback of a stage that a step calls, where it calls one
abbrev pub asked_at : Room → Next → Option Asked
asked_at room Read = None
asked_at room (Move place) = (asks_at place (slice_get room.lines place) room.lines room.hub).0
asked_at room Work = None
asked_at room (Free at) = None
asked_at room (End place) = None
asked_at room Begin = None
asked_at room Rest = None

-- That of a step of a walk
abbrev pub asked_in : {H : Type 0} → Step H → Option Asked
asked_in s = asked_at s.before.room (next_of s.before.room)

-- The hub with which it calls it
abbrev pub hub_at : Room → Next → Hub
hub_at room Read = room.hub
hub_at room (Move place) = (asks_at place (slice_get room.lines place) room.lines room.hub).2
hub_at room Work = room.hub
hub_at room (Free at) = room.hub
hub_at room (End place) = room.hub
hub_at room Begin = room.hub
hub_at room Rest = room.hub

-- That of a step of a walk
abbrev pub asked_hub : {H : Type 0} → Step H → Hub
asked_hub s = hub_at s.before.room (next_of s.before.room)

-- What a step sends
pub record Sends {H : Type 0} (s : Step H) (sent : List Sent) : Type 0 where
  pub is : s.after.room.hub.sent ≡ s.before.room.hub.sent ++ sent

-- A TURN IS A WALK: its steps, from its event on, meet what its course meets, and it comes to where they lead.
pub record WalkOf {H : Type 0} (calling : Calling H) (plan : Plan) (from : Both H) (event : Event) (met : List Met) (end : Outcome H) : Type 0 where
  pub to : Both H
  pub walk : List (Step H)
  pub walks : Walk calling plan (both from.host (room_for_event plan event from.room)) walk to
  pub met_is : flat_map (λ (s : Step H). s.met) walk ≡ met
  pub end_is : end ≡ outcome_of to

-- EACH TURN BUT THAT OF STOP IS A WALK, by a plan without streams of bytes, wherever it begins, and whatever the stores reply.
abbrev pub TurnsAreWalks : (H : Type 0) → Type 0
TurnsAreWalks H =
    (calling : Calling H) (plan : Plan) (from : Both H) (event : Event) (met : List Met) (end : Outcome H) → plan.tcp ≡ [] → is_stop event.what ≡ false → Reaches (turn calling plan from event) met (ends end)
    → WalkOf calling plan from event met end
