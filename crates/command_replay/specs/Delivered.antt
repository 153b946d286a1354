-- What a script delivers, worker by worker, and that this is what is printed.
use Rattle.std.specs.Prelude.{◌≡◌, ℕ, ◌==◌, ◌≤◌, if◌then◌else◌, List, [], ◌∷◌, ◌++◌, length, map, Option}
use Rattle.filter_host.specs.Course.{ends, Met, Reaches, calls_in}
use Rattle.gate_io.specs.MemoryWorld.{stop_at}
use Rattle.gate_io.specs.Passing.{happened, received}
use Rattle.gate_io.specs.Told.{Gains, GainsFront}
use Rattle.gate_io.specs.declared.event.Event.{Event}
use Rattle.gate_io.specs.declared.event.Sent.{Sent}
use Rattle.gate_io.specs.declared.event.Sent.TheVariants.{Connect, Close}
use Rattle.gate_io.specs.declared.event.Side.TheVariants.{Up}
use Rattle.gate_io.specs.declared.passed.Passed.{Passed}
use Rattle.worker_meaning.specs.Meaning.{meaning, run}
use Rattle.send_queue.specs.Delivery.{solid}
use Rattle.send_queue.specs.Turns.{OneTurn, Delivers}
use Rattle.replay_script.specs.Prints.{Told, printed_by, tell, told}
use Rattle.replay_script.specs.declared.command.Command.{Command}
use Rattle.store_model.specs.Sequential.{Stores, Performs}
use Rattle.worker_model.specs.Steps.{Both}
use Rattle.worker_model.specs.Turned.{one_turn}
use Rattle.command_replay.specs.Replay.{Placed, Replays, ReplaysFront, Setup, first_worker, for_worker, placed, placed_of, stores_for}

-- a turn of a script: its worker, its event, what its course met, and what it sends
pub record Step : Type 0 where
  pub who : ℕ
  pub event : Event
  pub met : List Met
  pub sent : List Sent

abbrev pub placed_step : Step → Placed
placed_step x = placed x.who x.event

-- those of one worker
abbrev pub steps_of : ℕ → List Step → List Step
steps_of who [] = []
steps_of who (x ∷ steps) = if x.who == who then x ∷ steps_of who steps else steps_of who steps

abbrev pub events_in : List Step → List Event
events_in [] = []
events_in (x ∷ steps) = x.event ∷ events_in steps

abbrev pub met_in : List Step → List Met
met_in [] = []
met_in (x ∷ steps) = x.met ++ met_in steps

abbrev pub turns_in : List Step → List OneTurn
turns_in [] = []
turns_in (x ∷ steps) = one_turn x.event x.sent ∷ turns_in steps

-- all that they send, each piece with its worker
abbrev pub sent_in : List Step → List Told
sent_in [] = []
sent_in (x ∷ steps) = tell x.who (solid x.sent) ++ sent_in steps

-- of all that is sent, what one worker sends
abbrev pub sent_of : ℕ → List Told → List Sent
sent_of who [] = []
sent_of who (t ∷ sent) = if t.who == who then t.sent ∷ sent_of who sent else sent_of who sent

-- their calls and asks are made one after the other of the same stores, each in its worker's name
abbrev pub Stepped : Stores → List Step → Stores → Type 0
Stepped s [] t = t ≡ s
Stepped s (x ∷ steps) t = (mid : Stores) × Performs (for_worker x.who s) (calls_in x.met) mid × Stepped mid steps t

-- WHAT THE WORLD OF A WORKER RECEIVES over these turns of it. The turns are those that their events mean, from the worker's first standing on, with
-- the replies that they were given. In its world these events happened and no others. What the turns send was delivered there, each turn's after its
-- event, nothing of it waits, and it is all that was received.
pub record InItsWorld {H : Type 0} (setup : Setup H) (who : ℕ) (steps : List Step) (sent : List Sent) : Type 0 where
  pub state : Both H
  pub means : Reaches (meaning setup.calling (first_worker setup who) (events_in steps)) (met_in steps) (ends (run state (turns_in steps)))
  pub passed : List Passed
  pub happened_is : happened passed ≡ events_in steps
  pub delivers : Delivers [] (turns_in steps) passed []
  pub received_is : received passed ≡ sent

-- EACH WORKER DOES WHAT ITS EVENTS MEAN, AND ITS WORLD RECEIVES IT. There are turns at these events, in their order. Each reply is that of the stores
-- which all share, after all calls of the turns before it, from empty ones on. What is sent is what the turns send, turn by turn; and for each worker
-- its part of it is what its world receives.
pub record EachMeans {H : Type 0} (setup : Setup H) (events : List Placed) (sent : List Told) : Type 0 where
  pub steps : List Step
  pub placed_are : map placed_step steps ≡ events
  pub shared : Stores
  pub stepped : Stepped (stores_for (length setup.config.vms)) steps shared
  pub sent_is : sent ≡ sent_in steps
  pub worlds : (who : ℕ) → 1 ≤ who → who ≤ setup.config.workers → InItsWorld setup who (steps_of who steps) (sent_of who sent)

-- ALL THAT A SCRIPT SENDS WAS PRINTED, and it is what the worlds of its workers receive
pub record Prints {H : Type 0} (setup : Setup H) (commands : List Command) (old new : Option (List ℕ)) : Type 0 where
  pub sent : List Told
  pub replays : Replays setup commands sent
  pub means : EachMeans setup (placed_of commands) sent
  pub gained : Gains old (printed_by 1 sent) new

-- a front of what is printed of some first events was taken, and these send what the worlds of their workers receive
pub record PrintsFront {H : Type 0} (setup : Setup H) (commands : List Command) (old new : Option (List ℕ)) : Type 0 where
  pub sent : List Told
  pub replays : ReplaysFront setup commands sent
  pub means : EachMeans setup replays.front sent
  pub gained : GainsFront old (printed_by 1 sent) new

-- ---- worked examples

-- worker 1 sends twice, and worker 2 once in between
abbrev pub sent_by_two : List Told
sent_by_two = told 1 (Connect 7) ∷ told 2 (Connect 8) ∷ told 1 (Close 7 Up) ∷ []

pub record DeliveredExamples (H : Type 0) : Type 0 where
  -- the part of each worker, in order; a worker that sends nothing has none
  pub of_first : sent_of 1 sent_by_two ≡ Connect 7 ∷ Close 7 Up ∷ []
  pub of_second : sent_of 2 sent_by_two ≡ Connect 8 ∷ []
  pub of_third : sent_of 3 sent_by_two ≡ []
  -- a world in which no turn was taken receives nothing; nor does one in which Stop alone happened
  pub idle : (setup : Setup H) (who : ℕ) (sent : List Sent) → InItsWorld setup who [] sent → sent ≡ []
  pub stopped : (setup : Setup H) (who now : ℕ) (sent : List Sent) → InItsWorld setup who (record { who = who; event = stop_at now; met = []; sent = [] } ∷ []) sent → sent ≡ []
  -- where nothing happens nothing is printed
  pub nothing : (setup : Setup H) (sent : List Told) → EachMeans setup [] sent → sent ≡ []
