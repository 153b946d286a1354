-- What the readers of servers read, over all turns of a worker.
use Rattle.std.specs.Prelude.{◌≡◌, ◌⊎◌, ℕ, Bool, true, false, List, [], ◌++◌, Option, None, Some}
use Rattle.filter_host.specs.Called.{Calling}
use Rattle.exchange.specs.declared.types.Exchange.{Exchange}
use Rattle.gate_config.specs.declared.config.Config.{Config}
use Rattle.gate_io.specs.declared.event.Side.TheVariants.{Up}
use Rattle.gate_io.specs.declared.event.What.{What}
use Rattle.h1_model.specs.Unread.{Reading, new_reading}
use Rattle.worker_model.specs.Making.{first_room}
use Rattle.worker_model.specs.Plan.{Plan}
use Rattle.worker_model.specs.Steps.{Both, both, line_in, line_reading}
use Rattle.worker_model.specs.declared.types.Line.{Line}
use Rattle.law_reading.specs.Spelled.{IsReadOf}
use Rattle.law_reading.specs.Turns.{OneTurn, Turns, AreWhole, events_of}

-- THE READER OF A SERVER: a reader of the response to some method read exactly what a run of the events spells on the line's server's side, and while its
-- exchange was not answered no event is after that run. (That the run begins where the connection was opened is not said: it may be short, or empty.)
pub record HasServed (n : ℕ) (ws : List What) (answered : Bool) (r : Reading) : Type 0 where
  pub method : List ℕ
  pub before : List What
  pub run : List What
  pub rest : List What
  pub is : ws ≡ before ++ (run ++ rest)
  pub reads : IsReadOf (Some method) n Up run r
  pub listens : answered ≡ false → rest ≡ []

-- WHATEVER TURNS a worker has had since it was made, each of which came to rest: so it is of the server of each exchange that is open
abbrev pub ServersReadWhatCame : (H : Type 0) → Type 0
ServersReadWhatCame H =
    (calling : Calling H) (plan : Plan) (config : Config) (seed : List ℕ) (host : H) (turns : List (OneTurn H)) (to : Both H) (n : ℕ) (l : Line)
    (x : Exchange) (r : Reading)
    → Turns calling plan (both host (first_room config seed)) turns to → AreWhole turns → line_in n to.room.lines ≡ Some l → l.exchange ≡ Some x
    → x.reader ≡ Some r → HasServed n (events_of turns) x.is_answered r

-- the line has no connection to a server, or one of which nothing has come
abbrev pub HasHeardNothing : Option Reading → Type 0
HasHeardNothing o = (o ≡ None) ⊎ ((method : List ℕ) × (o ≡ Some (new_reading (Some method))))

-- SINCE A TURN after which the line had no connection to its server, or one of which nothing had come: what the server's reader has read later is of events
-- after that turn alone. So bytes that came by then, of whatever connection, are in none that is opened later.
abbrev pub ServersReadSince : (H : Type 0) → Type 0
ServersReadSince H =
    (calling : Calling H) (plan : Plan) (config : Config) (seed : List ℕ) (host : H) (earlier later : List (OneTurn H)) (mid to : Both H) (n : ℕ) (l : Line)
    (x : Exchange) (r : Reading)
    → Turns calling plan (both host (first_room config seed)) earlier mid → AreWhole earlier → HasHeardNothing (line_reading true (line_in n mid.room.lines))
    → Turns calling plan mid later to → AreWhole later → line_in n to.room.lines ≡ Some l → l.exchange ≡ Some x → x.reader ≡ Some r
    → HasServed n (events_of later) x.is_answered r
