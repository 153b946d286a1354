-- WHAT IS READ OF A LINE IS WHAT ITS EVENTS SPELL, over all turns of a worker.
use Rattle.std.specs.Prelude.{◌≡◌, ℕ, List, [], ◌∷◌, ◌++◌, Some, None}
use Rattle.filter_host.specs.Called.{Calling}
use Rattle.gate_config.specs.declared.config.Config.{Config}
use Rattle.gate_io.specs.declared.event.Side.TheVariants.{Down}
use Rattle.gate_io.specs.declared.event.What.{What}
use Rattle.gate_io.specs.declared.event.What.TheVariants.{Opened}
use Rattle.h1_model.specs.Unread.{Reading}
use Rattle.worker_model.specs.Making.{first_room}
use Rattle.worker_model.specs.Plan.{Plan}
use Rattle.worker_model.specs.Steps.{Both, both, line_in}
use Rattle.worker_model.specs.declared.types.Line.{Line}
use Rattle.law_reading.specs.Spelled.{IsReadOf}
use Rattle.law_reading.specs.Turns.{OneTurn, Turns, AreWhole, events_of, StaysOpen}

-- THE READER OF A LINE'S CLIENT: the line was opened in one of the turns and has been open since; and its reader read exactly what the events since then
-- spell on its client's side
pub record HasRead {H : Type 0} (n : ℕ) (turns : List (OneTurn H)) (r : Reading) : Type 0 where
  pub earlier : List (OneTurn H)
  pub opening : OneTurn H
  pub later : List (OneTurn H)
  pub is : turns ≡ earlier ++ opening ∷ later
  pub opened : opening.event.what ≡ Opened n
  pub stays : StaysOpen n (opening ∷ later)
  pub reads : IsReadOf None n Down (events_of later) r

-- WHATEVER TURNS a worker has had since it was made, each of which came to rest, whatever its machines do and its stores reply: so it is of each open line.
abbrev pub LinesReadWhatCame : (H : Type 0) → Type 0
LinesReadWhatCame H =
    (calling : Calling H) (plan : Plan) (config : Config) (seed : List ℕ) (host : H) (turns : List (OneTurn H)) (to : Both H) (n : ℕ) (l : Line)
    → Turns calling plan (both host (first_room config seed)) turns to → AreWhole turns → line_in n to.room.lines ≡ Some l → HasRead n turns l.requests

-- no line of this number is opened
abbrev pub NotOpened : ℕ → List What → Type 0
NotOpened n [] = Unit {0}
NotOpened n (w ∷ ws) = (w ≡ Opened n → ⊥) × NotOpened n ws

-- WHERE A NUMBER IS OPENED ONCE, its reader read all that the events after that spell.
abbrev pub NumbersReadOnce : (H : Type 0) → Type 0
NumbersReadOnce H =
    (calling : Calling H) (plan : Plan) (config : Config) (seed : List ℕ) (host : H) (turns : List (OneTurn H)) (to : Both H) (n : ℕ) (l : Line)
    (before after : List What)
    → Turns calling plan (both host (first_room config seed)) turns to → AreWhole turns → line_in n to.room.lines ≡ Some l
    → events_of turns ≡ before ++ Opened n ∷ after → NotOpened n before → NotOpened n after → IsReadOf None n Down after l.requests
