-- What holds of all lives, and of what all fleets come to.
use Rattle.std.specs.Prelude.{◌≡◌, ◌≢◌, ℕ, ◌<◌, Bool, false, List, [], ◌∷◌, ◌++◌, Option, length, map, reverse}
use Rattle.filter_host.specs.Called.{Calling}
use Rattle.filter_host.specs.Course.{Course, Goes, calls_in, ends}
use mathlib.Core.Option.{some}
use lib.ListN.{get_elem?}
use Rattle.fleet.specs.Lives.{Life, Lives}
use Rattle.fleet.specs.Made.{events_in_life, events_in_turns, events_of_each, made_in, made_in_life, made_in_turns}
use Rattle.fleet.specs.Moves.{seats_in}
use Rattle.fleet.specs.Run.{Ended}
use Rattle.gate_config.specs.declared.config.Config.{Config}
use Rattle.gate_config.specs.declared.entries.VmEntry.{VmEntry}
use Rattle.gate_io.specs.Nature.{Nature}
use Rattle.gate_io.specs.Passing.{happened}
use Rattle.gate_io.specs.Told.{Gains}
use Rattle.gate_io.specs.declared.event.Event.{Event}
use Rattle.gate_io.specs.declared.passed.Passed.{Passed}
use Rattle.worker_meaning.specs.Meaning.{Means, Run, meaning, run}
use Rattle.send_queue.specs.Turns.{OneTurn, events_of}
use Rattle.metric_seats.specs.declared.table.MetricsClosed.{MetricsClosed}
use Rattle.shared_seats.specs.Closed.{ClosedOf}
use Rattle.shared_seats.specs.Moving.{SeatsGoOn}
use Rattle.shared_seats.specs.Seats.{SeatsOf}
use Rattle.shared_seats.specs.Workers.{HasMetrics, HasOneHistory}
use Rattle.store_model.specs.Made.{Made}
use Rattle.shared_store.specs.declared.closed.ClosedStore.{ClosedStore}
use Rattle.worker_model.specs.State.{Standing}
use Rattle.worker_model.specs.declared.types.Turn.{Turn}
use Rattle.worker_model.specs.declared.types.Turn.TheVariants.{OutOfMemory, Stopped}

-- SEATS GO ON BY THE CALLS AND ASKS OF THEIR WORKER: those that its turns made, one after the other, and no others.
abbrev pub SeatsGoOnByLives : {H : Type 0} → Calling H → Type 0
SeatsGoOnByLives {H} calling =
    (first : Standing H) (s : SeatsOf) (old : Option (List Passed)) (end : Turn) (again : Bool) (t : SeatsOf) (new : Option (List Passed))
    → (lives : Lives calling SeatsGoOn first s old end again t new) → SeatsGoOn s (made_in calling SeatsGoOn first s old end again t new lives) t

-- ALL THAT A LIFE CALLED IS WHAT ITS EVENTS MEAN, as far as it came: the meaning of the events that were given in it, that of its last turn too, calls first
-- what its turns called, in order, and was replied what they were replied. Unless memory ran out nothing of that meaning is left.
pub record IsMeantAsFar {H : Type 0} (calling : Calling H) (s : SeatsOf) (old : Option (List Passed)) (from : Standing H) (end : Turn) (to : Standing H) (t : SeatsOf) (new : Option (List Passed))
    (life : Life calling SeatsGoOn s old from end to t new) : Type 0 where
  pub steps : List Passed
  pub told : Gains old steps new
  pub given : happened steps ≡ events_in_life calling SeatsGoOn s old from end to t new life
  pub left : Course (Run H)
  pub goes : Goes SeatsGoOn s (meaning calling from (events_in_life calling SeatsGoOn s old from end to t new life)) left t
  pub calls : calls_in goes.met ≡ made_in_life calling SeatsGoOn s old from end to t new life
  pub whole : end ≢ OutOfMemory → (turns : List OneTurn) × (left ≡ ends (run to.state turns))

-- A LIFE IS MEANT: from where it began, its turns before the last are those that their events mean, with the replies of the worker's seats, and what
-- they send was delivered or waits; and so are all its turns, where the last one was at Stop. The calls of this meaning are those that the turns made.
-- And however the last one ended, all that the life called is what the meaning of its events calls first.
pub record IsMeant {H : Type 0} (calling : Calling H) (s : SeatsOf) (old : Option (List Passed)) (from : Standing H) (end : Turn) (to : Standing H) (t : SeatsOf) (new : Option (List Passed))
    (life : Life calling SeatsGoOn s old from end to t new) : Type 0 where
  pub before_last : Means calling SeatsGoOn s old from life.before life.at life.mid
  pub events : events_of before_last.turns ≡ events_in_turns calling SeatsGoOn life.count s old from life.before life.at life.mid life.went
  pub calls : calls_in before_last.goes.met ≡ made_in_turns calling SeatsGoOn life.count s old from life.before life.at life.mid life.went
  pub to_stop : end ≡ Stopped → Means calling SeatsGoOn s old from to t new
  pub events_to_stop : (stopped : end ≡ Stopped) → events_of (to_stop stopped).turns ≡ events_in_life calling SeatsGoOn s old from end to t new life
  pub calls_to_stop : (stopped : end ≡ Stopped) → calls_in (to_stop stopped).goes.met ≡ made_in_life calling SeatsGoOn s old from end to t new life
  pub as_far : IsMeantAsFar calling s old from end to t new life

abbrev pub LivesAreMeant : {H : Type 0} → Calling H → Type 0
LivesAreMeant {H} calling =
    (s : SeatsOf) (old : Option (List Passed)) (from : Standing H) (end : Turn) (to : Standing H) (t : SeatsOf) (new : Option (List Passed))
    → (life : Life calling SeatsGoOn s old from end to t new) → IsMeant calling s old from end to t new life

-- the events of lives, one after the other
abbrev pub events_of_lives : List (List Event) → List Event
events_of_lives [] = []
events_of_lives (events ∷ lives) = events ++ events_of_lives lives

-- The calls of lives, one after the other: each life begins at the first standing, and the meaning of its events calls first what it called, with the
-- replies of the worker's seats.
abbrev pub CallsOfLives : {H : Type 0} → Calling H → Standing H → List (List Event) → SeatsOf → List Made → SeatsOf → Type 0
CallsOfLives calling first [] s calls t = (calls ≡ []) × (t ≡ s)
CallsOfLives {H} calling first (events ∷ lives) s calls t =
    (u : SeatsOf) × (left : Course (Run H)) × (goes : Goes SeatsGoOn s (meaning calling first events) left u) × (later : List Made) × (calls ≡ calls_in goes.met ++ later) × CallsOfLives calling first lives u later t

-- ALL LIVES OF A WORKER ARE MEANT: given the events of each of its lives, its calls are, one life after the other, what the meanings of these events call
-- first. In a world that tells what passed, the events that it told of giving are those of the lives, one after the other. Where none ended for want of
-- memory before the last, there is one life.
pub record AreMeant {H : Type 0} (calling : Calling H) (first : Standing H) (s : SeatsOf) (old : Option (List Passed)) (again : Bool) (t : SeatsOf) (new : Option (List Passed)) (lives : List (List Event)) (calls : List Made) : Type 0 where
  pub steps : List Passed
  pub told : Gains old steps new
  pub cut : happened steps ≡ events_of_lives lives
  pub goes : CallsOfLives calling first lives s calls t
  pub one : again ≡ false → length lives ≡ 1

-- so it is of all lives, with the events of each and the calls of all
abbrev pub AllLivesAreMeant : {H : Type 0} → Calling H → Type 0
AllLivesAreMeant {H} calling =
    (first : Standing H) (s : SeatsOf) (old : Option (List Passed)) (end : Turn) (again : Bool) (t : SeatsOf) (new : Option (List Passed))
    → (lives : Lives calling SeatsGoOn first s old end again t new) → AreMeant calling first s old again t new (events_of_each calling SeatsGoOn first s old end again t new lives) (made_in calling SeatsGoOn first s old end again t new lives)

-- what a VM came to: its store, with the one history of all workers' calls on it, and its metrics, with the one of their definitions
pub record HasOne (vm : ℕ) (lists : List SeatsOf) (closed : ClosedOf) : Type 0 where
  pub store : ClosedStore
  pub store_there : get_elem? closed.stores vm ≡ some store
  pub calls : HasOneHistory vm lists store
  pub metrics : MetricsClosed
  pub metrics_there : get_elem? closed.metrics vm ≡ some metrics
  pub asks : HasMetrics vm lists metrics

module _ {W H : Type 0} (trace_of : W → Option (List Passed)) (nature_of : W → Nature) (faults_of : W → ℕ) (calling : Calling H) where
  -- EACH VM OF THE CONFIGURATION CAME TO ONE STORE AND ONE SET OF METRICS, however the workers ended
  abbrev pub EachVmHasOne : Type 0
  EachVmHasOne =
      (first : ℕ → List ℕ → Standing H) (config : Config) (old new : List W) (closed : ClosedOf) (vm : ℕ) → (ended : Ended trace_of nature_of faults_of calling first config old new closed) → vm < length config.vms
      → HasOne vm (reverse (map seats_in ended.worked.after)) closed

  -- a worked example: a fleet over two VMs does not leave one store, nor the metrics of three
  abbrev pub two_vms_leave_two : Type 0
  two_vms_leave_two =
      (first : ℕ → List ℕ → Standing H) (config : Config) (a b : VmEntry) (old new : List W) (s t : ClosedStore) (m n o : MetricsClosed) → config.vms ≡ a ∷ b ∷ []
      → (Ended trace_of nature_of faults_of calling first config old new (record { stores = s ∷ []; metrics = m ∷ n ∷ [] }) → ⊥)
      × (Ended trace_of nature_of faults_of calling first config old new (record { stores = s ∷ t ∷ []; metrics = m ∷ n ∷ o ∷ [] }) → ⊥)
