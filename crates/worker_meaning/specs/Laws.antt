-- What holds of every meaning.
use Rattle.std.specs.Prelude.{◌≡◌, ℕ, List, [], ◌∷◌, ◌++◌}
use Rattle.filter_host.specs.Called.{Calling}
use Rattle.filter_host.specs.Course.{ends, then_do, Met, Reaches, calls_in}
use Rattle.filter_host.specs.Once.{asked_in, replies_in}
use Rattle.gate_io.specs.MemoryWorld.{stop_at}
use Rattle.gate_io.specs.declared.event.Event.{Event}
use Rattle.worker_model.specs.Plan.{Plan}
use Rattle.worker_model.specs.State.{Standing}
use Rattle.worker_model.specs.Steps.{Both}
use Rattle.streams_model.specs.Turn.{turn}
use Rattle.worker_model.specs.Turned.{one_turn}
use Rattle.worker_meaning.specs.Meaning.{Run, last_turn, meaning, means, run}

-- A MEANING IS A FUNCTION OF THE REPLIES: where the shared stores reply the same, the same is asked of them, and the run comes to the same.
abbrev pub MeaningIsAFunction : (H : Type 0) → Type 0
MeaningIsAFunction H =
    (calling : Calling H) (from : Standing H) (events : List Event) (ms ns : List Met) (a b : Run H)
    → Reaches (meaning calling from events) ms (ends a) → Reaches (meaning calling from events) ns (ends b)
    → replies_in (calls_in ms) ≡ replies_in (calls_in ns) → (asked_in (calls_in ms) ≡ asked_in (calls_in ns)) × (a ≡ b)

-- with one more event it is the run, and then one turn
abbrev pub MeaningGoesOn : (H : Type 0) → Type 0
MeaningGoesOn H =
    (calling : Calling H) (plan : Plan) (state : Both H) (events : List Event) (event : Event)
    → means calling plan state (events ++ event ∷ [])
    ≡ then_do (means calling plan state events) (λ before. then_do (turn calling plan before.state event) (λ end. ends (last_turn before event end)))

-- no event, and Stop: nothing is done
pub record MeaningExamples (H : Type 0) : Type 0 where
  pub none : (calling : Calling H) (from : Standing H) → meaning calling from [] ≡ ends (run from.state [])
  pub stop : (calling : Calling H) (from : Standing H) (now : ℕ) → meaning calling from (stop_at now ∷ []) ≡ ends (run from.state (one_turn (stop_at now) [] ∷ []))
