-- WHOLE TURNS OF A WORKER as its code takes them, over shared stores of any kind. The laws are of configurations without streams of bytes.
use Rattle.std.specs.Prelude.{◌≡◌, ℕ, Bool, true, List, [], ◌∷◌, Contains, Option, Some}
use Rattle.filter_host.specs.Called.{Calling}
use Rattle.filter_host.specs.declared.host.Callback.{Callback}
use Rattle.gate_config.specs.declared.config.Config.{Config}
use Rattle.gate_io.specs.Events.{Last}
use Rattle.gate_io.specs.declared.passed.Passed.{Passed}
use Rattle.store_model.specs.Made.{Made}
use Rattle.worker_model.specs.Making.{new_worker}
use Rattle.worker_model.specs.State.{Standing}
use Rattle.worker_model.specs.Steps.{line_in, exchange_reading}
use Rattle.worker_model.specs.Turn.{outcome}
use Rattle.worker_model.specs.Turned.{Heard}
use Rattle.streams_model.specs.Turned.{worker_wants, Whole}
use Rattle.worker_model.specs.declared.types.Line.{Line}
use Rattle.law_reading.specs.Laws.{HasRead}
use Rattle.law_reading.specs.Limits.{IsShort}
use Rattle.law_reading.specs.Turns.{OneTurn}

module _ {H S : Type 0} (calling : Calling H) (performs : S → List Made → S → Type 0) where
  -- one of them, as a turn: its event, what its course met, and what it came to
  abbrev pub turn_of : (stop : Bool) (s t : S) (old new : Option (List Passed)) (from to : Standing H) → Whole calling performs stop s old from to t new → OneTurn H
  turn_of stop s t old new from to w = record { event = w.event; met = w.goes.met; end = outcome to.state w.sent }

  -- one after the other, each of which keeps its setting: from this standing on these turns lead to that
  pub data Worked : Standing H → List (OneTurn H) → Standing H → Type 0 where
    no_turn : (from : Standing H) → Worked from [] from
    a_turn : (stop : Bool) (s t : S) (old new : Option (List Passed)) (from mid to : Standing H) (turns : List (OneTurn H)) → (w : Whole calling performs stop s old from mid t new)
        → mid.setting ≡ from.setting → Worked mid turns to → Worked from (turn_of stop s t old new from mid w ∷ turns) to

-- SO IT IS OF A WORKER that was made of a configuration, as `Worker::new` makes it, by the whole turns that its code takes
abbrev pub WorkersReadWhatCame : (H S : Type 0) → (performs : S → List Made → S → Type 0) → Type 0
WorkersReadWhatCame H S performs =
    (calling : Calling H) (exported : H → ℕ → Callback → Bool) (registering : H → ℕ → Bool) (config : Config) (who : ℕ) (seed : List ℕ) (host : H)
    (turns : List (OneTurn H)) (to : Standing H) (n : ℕ) (l : Line) → config.tcp ≡ []
    → Worked calling performs (new_worker exported registering config who seed host) turns to
    → line_in n to.state.room.lines ≡ Some l → HasRead n turns l.requests

module _ {H S : Type 0} (calling : Calling H) (performs : S → List Made → S → Type 0) where
  -- the same turns, of each of which the event came from a world that keeps to what it is asked for, as `Worker::turn` says
  pub data Obeyed : Standing H → List (OneTurn H) → Standing H → Type 0 where
    none_heard : (from : Standing H) → Obeyed from [] from
    one_heard : (stop : Bool) (before after : Last) (s t : S) (old new : Option (List Passed)) (from mid to : Standing H) (turns : List (OneTurn H))
        → (w : Whole calling performs stop s old from mid t new) → Heard true (worker_wants from) before after w.event
        → mid.setting ≡ from.setting → Obeyed mid turns to → Obeyed from (turn_of calling performs stop s t old new from mid w ∷ turns) to

-- BY SUCH TURNS of a worker that `Worker::new` made, whatever its machines do, no more than 81,919 bytes are unread of any side of any line
abbrev pub WorkersLeaveLittleUnread : (H S : Type 0) → (performs : S → List Made → S → Type 0) → Type 0
WorkersLeaveLittleUnread H S performs =
    (calling : Calling H) (exported : H → ℕ → Callback → Bool) (registering : H → ℕ → Bool) (config : Config) (who : ℕ) (seed : List ℕ) (host : H)
    (turns : List (OneTurn H)) (to : Standing H) (l : Line) → config.tcp ≡ []
    → Obeyed calling performs (new_worker exported registering config who seed host) turns to
    → Contains to.state.room.lines l → IsShort (Some l.requests) × IsShort (exchange_reading l.exchange)
