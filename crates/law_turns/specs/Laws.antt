-- What holds of every turn, whatever the machines do.
use Rattle.std.specs.Prelude.{◌≡◌, ℕ, ◌+◌, true, List}
use Rattle.filter_host.specs.Called.{Calling}
use Rattle.filter_host.specs.Course.{ends, Met, Reaches, calls_in}
use Rattle.filter_host.specs.Once.{asked_in, replies_in}
use Rattle.gate_io.specs.declared.event.Event.{Event}
use Rattle.worker_model.specs.Plan.{Plan}
use Rattle.worker_model.specs.Rooms.{next_of}
use Rattle.worker_model.specs.Settling.{settling, is_rest}
use Rattle.worker_model.specs.Steps.{Both}
use Rattle.worker_model.specs.Turn.{Outcome, turn}

-- A TURN IS A FUNCTION OF THE REPLIES: where the shared stores reply the same, the same is asked of them, and the turn comes to the same.
abbrev pub TurnsAreFunctionsOver : (H : Type 0) → Type 0
TurnsAreFunctionsOver H =
    (calling : Calling H) (plan : Plan) (state : Both H) (event : Event) (ms ns : List Met) (a b : Outcome H)
    → Reaches (turn calling plan state event) ms (ends a) → Reaches (turn calling plan state event) ns (ends b)
    → replies_in (calls_in ms) ≡ replies_in (calls_in ns) → (asked_in (calls_in ms) ≡ asked_in (calls_in ns)) × (a ≡ b)

-- MORE STEPS CHANGE NOTHING: where so many steps come to rest, more come to the same, by the same calls.
abbrev pub MoreStepsChangeNothingOver : (H : Type 0) → Type 0
MoreStepsChangeNothingOver H =
    (calling : Calling H) (plan : Plan) (n k : ℕ) (b c : Both H) (ms : List Met) → Reaches (settling calling plan n b.host b.room) ms (ends c)
    → is_rest (next_of c.room) ≡ true → Reaches (settling calling plan (n + k) b.host b.room) ms (ends c)
