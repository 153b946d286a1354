-- What holds of every turn.
use Rattle.std.specs.Prelude.{◌≡◌, ℕ, ◌+◌, true, List}
use Rattle.filter_host.specs.Course.{ends, Met, Reaches, calls_in}
use Rattle.filter_host.specs.Once.{asked_in, replies_in}
use Rattle.gate_io.specs.declared.event.Event.{Event}
use Rattle.worker_model.specs.NoCalls.{no_calling}
use Rattle.worker_model.specs.Rooms.{next_of}
use Rattle.worker_model.specs.Settling.{settling, is_rest}
use Rattle.worker_model.specs.Steps.{Both}
use Rattle.worker_model.specs.Turn.{Outcome, turn}
use Rattle.worker_model.specs.declared.no_machines.NoMachines.{NoMachines}
use Rattle.worker_model.specs.Plan.{Plan}

-- A TURN IS A FUNCTION OF THE REPLIES: where the shared stores reply the same, the same is asked of them, and the turn comes to the same.
abbrev pub TurnsAreFunctions : Type 0
TurnsAreFunctions =
    (plan : Plan) (state : Both NoMachines) (event : Event) (ms ns : List Met) (a b : Outcome NoMachines)
    → Reaches (turn no_calling plan state event) ms (ends a) → Reaches (turn no_calling plan state event) ns (ends b)
    → replies_in (calls_in ms) ≡ replies_in (calls_in ns) → (asked_in (calls_in ms) ≡ asked_in (calls_in ns)) × (a ≡ b)

-- MORE STEPS CHANGE NOTHING: where so many steps come to rest, more come to the same, by the same calls.
abbrev pub MoreStepsChangeNothing : Type 0
MoreStepsChangeNothing =
    (plan : Plan) (n k : ℕ) (b c : Both NoMachines) (ms : List Met) → Reaches (settling no_calling plan n b.host b.room) ms (ends c)
    → is_rest (next_of c.room) ≡ true → Reaches (settling no_calling plan (n + k) b.host b.room) ms (ends c)
