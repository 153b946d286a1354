-- Worked turns and a worked walk.
use Rattle.std.specs.Prelude.{◌≡◌, ℕ, false, List, [], ◌∷◌}
use Rattle.filter_host.specs.Called.{Calling}
use Rattle.filter_host.specs.Course.{ends, Met, Reaches}
use Rattle.gate_io.specs.MemoryWorld.{stop_at}
use Rattle.worker_model.specs.Plan.{Plan}
use Rattle.worker_model.specs.Rooms.{next_of}
use Rattle.worker_model.specs.Settling.{is_rest}
use Rattle.worker_model.specs.Steps.{Both, step}
use Rattle.worker_model.specs.Turn.{Outcome, outcome}
use Rattle.law_meaning.specs.Turns.{Turns}
use Rattle.law_meaning.specs.Walks.{Walk}

-- What a turn of Stop is and is not, and a walk of one step.
pub record TurnExamples (H : Type 0) : Type 0 where
  -- Stop is one turn, which meets nothing, sends nothing and leaves the state as it was
  pub stop : (calling : Calling H) (plan : Plan) (from : Both H) (now : ℕ) → Turns calling plan from (record { event = stop_at now; met = []; end = outcome from [] } ∷ []) from
  pub stop_stays : (calling : Calling H) (plan : Plan) (from to : Both H) (now : ℕ) (end : Outcome H) → Turns calling plan from (record { event = stop_at now; met = []; end = end } ∷ []) to
      → to ≡ from
  pub stop_meets_nothing : (calling : Calling H) (plan : Plan) (from to : Both H) (now : ℕ) (m : Met) (ms : List Met) (end : Outcome H)
      → Turns calling plan from (record { event = stop_at now; met = m ∷ ms; end = end } ∷ []) to → ⊥
  -- the next step of a worker that is not at rest is a walk
  pub one_step : (calling : Calling H) (plan : Plan) (b m : Both H) (ms : List Met) → is_rest (next_of b.room) ≡ false → Reaches (step calling plan (next_of b.room) b.host b.room) ms (ends m)
      → Walk calling plan b (record { before = b; met = ms; after = m } ∷ []) m
