-- HOW LARGE A ROOM IS: so many things are in it, each of which takes memory. What is left to do at the start of a turn is below a turn's number
-- of steps, 2^64 - 1, for each room of at most 2^56 things.
use Rattle.std.specs.Prelude.{◌≡◌, ◌≤◌, ℕ, zero, suc, ◌+◌, ◌*◌, ◌^◌, Bool, List, [], ◌∷◌, length, Option, None, Some}
use Rattle.filter_host.specs.Called.{Calling}
use Rattle.contexts.specs.declared.parts.Contexts.{Contexts}
use Rattle.contexts.specs.Reached.{vm_in}
use Rattle.filter_host.specs.Course.{ends, Met, Reaches}
use Rattle.filter_host.specs.declared.host.Callback.{Callback}
use Rattle.exchange.specs.declared.types.Exchange.{Exchange}
use Rattle.filter_chain.specs.declared.stage.Stage.{Stage}
use Rattle.gate_config.specs.declared.config.Config.{Config}
use Rattle.gate_io.specs.declared.event.Event.{Event}
use Rattle.gate_io.specs.declared.passed.Passed.{Passed}
use Rattle.h1_model.specs.Unread.{Reading}
use Rattle.store_model.specs.Made.{Made}
use Rattle.worker_model.specs.Room.{Room}
use Rattle.worker_model.specs.declared.types.Line.{Line}
use Rattle.worker_model.specs.Making.{first_room, new_worker}
use Rattle.worker_model.specs.Settling.{settling}
use Rattle.worker_model.specs.State.{Setting, Standing, rules_of}
use Rattle.worker_model.specs.Steps.{Both, both}
use Rattle.worker_model.specs.Turn.{Outcome, turn, room_for_event, most_steps, vms_in}
use Rattle.streams_model.specs.Turned.{Whole}
use Rattle.law_rest.specs.Laws.{IsAtRest}
use Rattle.law_rest.specs.Left.{work_left, bytes_of, calls_left, AllFit}

-- the stages of a chain, and the items that wait at them
abbrev pub stages_size : List Stage → ℕ
stages_size [] = 0
stages_size (s ∷ stages) = 1 + length s.waiting + stages_size stages

-- bytes that are unread
abbrev pub reader_size : Option Reading → ℕ
reader_size None = 0
reader_size (Some reading) = length reading.unread

abbrev pub open_size : Option Exchange → ℕ
open_size None = 0
open_size (Some x) = 1 + reader_size x.reader + (stages_size x.request + stages_size x.response)

abbrev pub lines_size : List Line → ℕ
lines_size [] = 0
lines_size (line ∷ lines) = length line.requests.unread + open_size line.exchange + lines_size lines

-- so many VMs, and their contexts
abbrev pub vms_size : ℕ → Contexts → ℕ
vms_size zero h = 0
vms_size (suc n) h = vms_size n h + (1 + length (vm_in h n).contexts)

-- with the contexts that wait for `proxy_done`, the plug-ins, and the callouts with what is unread of their responses
abbrev pub room_size : Room → ℕ
room_size room =
    lines_size room.lines + length room.waits + vms_size (vms_in room) room.hub.contexts + length room.hub.contexts.plugins
    + (length room.calls + calls_left room.calls)

-- ---- turns

-- a turn: its event, what it meets, and what it comes to
pub record OneTurn (H : Type 0) : Type 0 where
  pub event : Event
  pub met : List Met
  pub end : Outcome H

-- the state that a worker is made with
abbrev pub first_state : {H : Type 0} → Setting → H → Both H
first_state setting host = both host (first_room setting.config setting.seed)

-- where a turn begins, and how large that is
abbrev pub turn_start : {H : Type 0} → Setting → Both H → Event → Room
turn_start setting state event = room_for_event (rules_of setting) event state.room

abbrev pub start_size : {H : Type 0} → Both H → Event → ℕ
start_size state event = room_size state.room + length (bytes_of event.what)

-- each exchange of the state fits, and everything is at rest
pub record IsReady {H : Type 0} (state : Both H) : Type 0 where
  pub fits : AllFit 16 state.room.lines
  pub rested : IsAtRest state.room

-- from one state these turns lead to another, and each begins with at most 2^56 things
abbrev pub Follow : {H : Type 0} → Calling H → Setting → Both H → List (OneTurn H) → Both H → Type 0
Follow calling setting state [] last = last ≡ state
Follow calling setting state (t ∷ turns) last =
    (start_size state t.event ≤ 2 ^ 56) × Reaches (turn calling (rules_of setting) state t.event) t.met (ends t.end)
    × Follow calling setting t.end.state turns last

pub record WorkersComeToRest (H : Type 0) : Type 0 where
  -- what is left to do where a turn begins
  pub small : (setting : Setting) (state : Both H) (event : Event) → IsReady state
      → work_left 16 (turn_start setting state event) ≤ 248 * start_size state event + 953
  -- FROM REST A TURN COMES TO REST
  pub turn : (calling : Calling H) (setting : Setting) (state : Both H) (event : Event) (ms : List Met) (end : Outcome H)
      → IsReady state → start_size state event ≤ 2 ^ 56 → Reaches (turn calling (rules_of setting) state event) ms (ends end)
      → IsReady end.state
  -- it takes 248 steps at most for each thing, and 954: with that bound the same is met, and it comes to the same
  pub steps : (calling : Calling H) (setting : Setting) (state : Both H) (event : Event) (ms : List Met) (c : Both H)
      → IsReady state → start_size state event ≤ 2 ^ 56
      → Reaches (settling calling (rules_of setting) most_steps state.host (turn_start setting state event)) ms (ends c)
      → Reaches (settling calling (rules_of setting) (248 * start_size state event + 954) state.host (turn_start setting state event)) ms (ends c)
  -- A WORKER IS AT REST when it is made, and after each of its turns
  pub first : (setting : Setting) (host : H) → IsReady (first_state setting host)
  pub turns : (calling : Calling H) (setting : Setting) (host : H) (turns : List (OneTurn H)) (last : Both H)
      → Follow calling setting (first_state setting host) turns last → IsReady last

-- ---- the code

-- So a worker that its code made is ready, and so it is after each whole turn of the code, where the configuration has no streams of bytes.
pub record WholeTurnsComeToRest {S : Type 0} (H : Type 0) (performs : S → List Made → S → Type 0) : Type 0 where
  pub made : (exported : H → ℕ → Callback → Bool) (registering : H → ℕ → Bool) (config : Config) (who : ℕ) (seed : List ℕ) (host : H)
      → IsReady (new_worker exported registering config who seed host).state
  pub whole : (calling : Calling H) (stop : Bool) (s t : S) (old new : Option (List Passed)) (from to : Standing H) → from.setting.config.tcp ≡ []
      → Whole calling performs stop s old from to t new → IsReady from.state → IsReady to.state
