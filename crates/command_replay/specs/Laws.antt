-- What holds of every script.
use Rattle.std.specs.Prelude.{◌≡◌, ℕ, ◌≤◌, All, List, [], ◌∷◌, ◌++◌, length, map, Option}
use Rattle.filter_host.specs.Course.{ends, Goes}
use Rattle.gate_io.specs.MemoryWorld.{stop_at}
use Rattle.gate_io.specs.declared.passed.Passed.{Passed}
use Rattle.worker_meaning.specs.Meaning.{Means, Run, meaning}
use Rattle.send_queue.specs.Delivery.{solid}
use Rattle.send_queue.specs.Turns.{all_sent, events_of as events_of_turns}
use Rattle.replay_script.specs.Prints.{Told, tell}
use Rattle.replay_script.specs.Scripts.{events_of, workers_of}
use Rattle.replay_script.specs.declared.command.Command.{Command}
use Rattle.store_model.specs.Sequential.{Stores, Performs}
use Rattle.worker_model.specs.State.{Standing}
use Rattle.worker_model.specs.Steps.{Both}
use Rattle.command_replay.specs.Delivered.{EachMeans}
use Rattle.command_replay.specs.Replay.{Placed, PlaysFirst, Setup, Replays, ReplaysFront, first_worker, placed, placed_of, stores_for}

-- the events of a script at their workers are all its events and all their workers, in order
pub record EachHasItsWorker (commands : List Command) : Type 0 where
  pub events : map (λ (p : Placed). p.event) (placed_of commands) ≡ events_of commands
  pub workers : map (λ (p : Placed). p.who) (placed_of commands) ≡ workers_of commands

-- over one setup a script sends one list
abbrev pub OneReplay : (H : Type 0) → Type 0
OneReplay H = (setup : Setup H) (commands : List Command) (a b : List Told) → Replays setup commands a → Replays setup commands b → a ≡ b

-- the one list is the other, and more after it
pub record IsFront (front whole : List Told) : Type 0 where
  pub rest : List Told
  pub is : whole ≡ front ++ rest

-- what some first events of a script send is a front of what the script sends
abbrev pub FrontsOfOne : (H : Type 0) → Type 0
FrontsOfOne H = (setup : Setup H) (commands : List Command) (whole front : List Told) → Replays setup commands whole → ReplaysFront setup commands front → IsFront front whole

-- Stop at each of these workers, one after another
abbrev pub stops : ℕ → List ℕ → List Placed
stops now [] = []
stops now (who ∷ whose) = placed who (stop_at now) ∷ stops now whose

-- The one Stop of a script stands for that of every worker: with Stop at any workers after it the script sends the same list.
abbrev pub StopStandsForAll : (H : Type 0) → Type 0
StopStandsForAll H = (setup : Setup H) (commands : List Command) (sent : List Told) (now : ℕ) (whose : List ℕ) → Replays setup commands sent
    → (after : List (Both H)) × (t : Stores) × PlaysFirst setup (placed_of commands ++ stops now whose) sent after t

-- ---- what each worker does

-- where its workers are there, each worker of a script does what its events mean
abbrev pub EachWorkerMeans : (H : Type 0) → Type 0
EachWorkerMeans H =
    (setup : Setup H) (commands : List Command) (sent : List Told) → All (λ (who : ℕ). (1 ≤ who) × (who ≤ setup.config.workers)) (workers_of commands) → Replays setup commands sent
    → EachMeans setup (placed_of commands) sent

-- A script of one worker is one run of it: over the stores as they are at first, the events mean these turns, and what they send is sent.
pub record IsRun {H : Type 0} (setup : Setup H) (commands : List Command) (sent : List Told) : Type 0 where
  pub ran : Run H
  pub shared : Stores
  pub goes : Goes Performs (stores_for (length setup.config.vms)) (meaning setup.calling (first_worker setup 1) (events_of commands)) (ends ran) shared
  pub sent_is : sent ≡ tell 1 (solid (all_sent ran.turns))

-- ONE FOLD FOR ALL: what a script of one worker sends is what its events mean; and it is what any run of whole turns sends that begins with that
-- worker, over such stores, and has these events, as a life up to Stop has.
pub record OneMeaning {H : Type 0} (setup : Setup H) (commands : List Command) (sent : List Told) : Type 0 where
  pub is_run : IsRun setup commands sent
  pub any_run : (old : Option (List Passed)) (to : Standing H) (t : Stores) (new : Option (List Passed))
      → (life : Means setup.calling Performs (stores_for (length setup.config.vms)) old (first_worker setup 1) to t new) → events_of_turns life.turns ≡ events_of commands
      → sent ≡ tell 1 (solid (all_sent life.turns))

abbrev pub ScriptsOfOneAreRuns : (H : Type 0) → Type 0
ScriptsOfOneAreRuns H =
    (setup : Setup H) (commands : List Command) (sent : List Told) → 1 ≤ setup.config.workers → All (λ (who : ℕ). who ≡ 1) (workers_of commands) → Replays setup commands sent → OneMeaning setup commands sent
