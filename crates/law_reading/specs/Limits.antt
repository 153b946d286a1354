-- THE LIMITS OF A WORKER'S LINES, over all its turns.
use Rattle.std.specs.Prelude.{◌≡◌, ◌≤◌, ℕ, List, [], ◌∷◌, length, Contains, Option, Some, None}
use Rattle.filter_host.specs.Called.{Calling}
use Rattle.gate_config.specs.declared.config.Config.{Config}
use Rattle.gate_io.specs.Events.{IsSized, Obeys}
use Rattle.gate_io.specs.declared.event.Sent.{Sent}
use Rattle.h1_model.specs.Unread.{Reading}
use Rattle.worker_model.specs.Making.{first_room}
use Rattle.worker_model.specs.Plan.{Plan}
use Rattle.worker_model.specs.Steps.{Both, both, line_in, exchange_reading}
use Rattle.worker_model.specs.Wants.{wants_of}
use Rattle.worker_model.specs.declared.types.Line.{Line}
use Rattle.law_reading.specs.Lines.{AreRising}
use Rattle.law_reading.specs.Turns.{OneTurn, Turns, AreWhole}

-- numbers rise, so each line is the one that is found by its number; and there are 128 at most
pub record KeepLimits (lines : List Line) : Type 0 where
  pub rising : AreRising lines
  pub apart : (l : Line) → Contains lines l → line_in l.number lines ≡ Some l
  pub few : length lines ≤ 128

-- WHATEVER TURNS a worker has had since it was made, each of which came to rest, and whatever its world gives
abbrev pub LinesKeepLimits : (H : Type 0) → Type 0
LinesKeepLimits H =
    (calling : Calling H) (plan : Plan) (config : Config) (seed : List ℕ) (host : H) (turns : List (OneTurn H)) (to : Both H)
    → Turns calling plan (both host (first_room config seed)) turns to → AreWhole turns → KeepLimits to.room.lines

-- THE WORLD OBEYS: each event is one that the worker asks for, whatever waits to be sent then; and bytes come in pieces of at most 16,384
abbrev pub AreWanted : {H : Type 0} → Plan → Both H → List (OneTurn H) → Type 0
AreWanted plan from [] = Unit {0}
AreWanted plan from (t ∷ turns) =
    (waiting : List Sent) × Obeys (wants_of plan from.room waiting) t.event.what × IsSized t.event.what × AreWanted plan t.end.state turns

abbrev pub IsShort : Option Reading → Type 0
IsShort None = Unit {0}
IsShort (Some reading) = length reading.unread ≤ 81919

-- WHERE IT DOES, no more than 81,919 bytes are unread of any side of any line, after each turn
abbrev pub UnreadStaysShort : (H : Type 0) → Type 0
UnreadStaysShort H =
    (calling : Calling H) (plan : Plan) (config : Config) (seed : List ℕ) (host : H) (turns : List (OneTurn H)) (to : Both H) (l : Line)
    → Turns calling plan (both host (first_room config seed)) turns to → AreWhole turns → AreWanted plan (both host (first_room config seed)) turns
    → Contains to.room.lines l → IsShort (Some l.requests) × IsShort (exchange_reading l.exchange)
