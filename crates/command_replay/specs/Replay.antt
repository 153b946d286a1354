-- What a script gives: the turns of its workers at their events, one after another.
use Rattle.std.specs.Prelude.{◌≡◌, ℕ, zero, suc, ◌-◌, ◌≤◌, Bool, replicate, List, [], ◌∷◌, ◌++◌, length, map, slice_index_or, slice_set, All, Option}
use Rattle.filter_host.specs.Called.{Calling}
use Rattle.filter_host.specs.Course.{ends, Goes}
use Rattle.filter_host.specs.declared.host.Callback.{Callback}
use Rattle.gate_config.specs.declared.config.Config.{Config}
use Rattle.gate_io.specs.Passing.{happened}
use Rattle.gate_io.specs.Told.{Gains}
use Rattle.gate_io.specs.declared.event.Event.{Event}
use Rattle.gate_io.specs.declared.event.Sent.{Sent}
use Rattle.gate_io.specs.declared.passed.Passed.{Passed}
use Rattle.send_queue.specs.Delivery.{solid}
use Rattle.send_queue.specs.Turns.{HandsOver}
use Rattle.replay_script.specs.declared.command.Command.{Command}
use Rattle.replay_script.specs.Prints.{Told, last_in, printed_by, tell}
use Rattle.replay_script.specs.ScriptWorld.{Playing, fresh, nature, taken_since}
use Rattle.replay_script.specs.Scripts.{events_of, workers_of}
use Rattle.shared_store.specs.Fresh.{fresh_metrics, fresh_stores}
use Rattle.store_model.specs.Sequential.{Stores, Performs}
use Rattle.worker_model.specs.Making.{new_worker}
use Rattle.worker_model.specs.Plan.{Plan}
use Rattle.worker_model.specs.State.{Standing, rules_of}
use Rattle.worker_model.specs.Steps.{Both}
use Rattle.worker_model.specs.Turn.{Outcome, outcome}
use Rattle.streams_model.specs.Turn.{turn}
use Rattle.worker_model.specs.Turned.{one_turn}

-- What a script is played over: what a callback of the machines does, which callbacks they export, which VMs register queues; the
-- configuration; and the machines as they are at the start.
pub record Setup (H : Type 0) : Type 0 where
  pub calling : Calling H
  pub exported : H → ℕ → Callback → Bool
  pub registering : H → ℕ → Bool
  pub config : Config
  pub host : H

abbrev pub setup_of : {H : Type 0} → Calling H → (H → ℕ → Callback → Bool) → (H → ℕ → Bool) → Config → H → Setup H
setup_of calling exported registering config host = record { calling = calling; exported = exported; registering = registering; config = config; host = host }

-- the seed of a script's world: 32 zero bytes
abbrev pub seed : List ℕ
seed = replicate 32 0

-- a worker, which has done nothing
abbrev pub first_worker : {H : Type 0} → Setup H → ℕ → Standing H
first_worker setup who = new_worker setup.exported setup.registering setup.config who seed setup.host

-- workers 1 to n, in order
abbrev pub first_workers : {H : Type 0} → Setup H → ℕ → List (Standing H)
first_workers setup zero = []
first_workers setup (suc n) = first_workers setup n ++ first_worker setup (suc n) ∷ []

-- what the turns of all of them go by
abbrev pub plan_for : {H : Type 0} → Setup H → Plan
plan_for setup = rules_of (first_worker setup 1).setting

abbrev pub state_of : {H : Type 0} → Standing H → Both H
state_of worker = worker.state

-- so many empty stores with no metrics, which worker 1 calls
abbrev pub stores_for : ℕ → Stores
stores_for n = record { who = 1; stores = fresh_stores n; metrics = fresh_metrics n }

-- the same stores, which this worker calls
abbrev pub for_worker : ℕ → Stores → Stores
for_worker who s = record s { who = who }

-- an event, and the worker at which it happens
pub record Placed : Type 0 where
  pub who : ℕ
  pub event : Event

abbrev pub placed : ℕ → Event → Placed
placed who event = record { who = who; event = event }

abbrev pub place_all : List ℕ → List Event → List Placed
place_all [] events = []
place_all (who ∷ whose) [] = []
place_all (who ∷ whose) (event ∷ events) = placed who event ∷ place_all whose events

-- the events of a script, each at its worker
abbrev pub placed_of : List Command → List Placed
placed_of commands = place_all (workers_of commands) (events_of commands)

module _ {H : Type 0} (setup : Setup H) where
  -- the state of a worker
  abbrev pub state_at : List (Both H) → ℕ → Both H
  state_at states who = slice_index_or states (who - 1) (first_worker setup who).state

  -- From the states of the workers, and that of the stores which they share, the events lead through their turns, each of its worker, to
  -- others, and this is sent. An empty piece is not, since there is nothing of it to take.
  abbrev pub Plays : List (Both H) → Stores → List Placed → List Told → List (Both H) → Stores → Type 0
  Plays states s [] sent after t = (sent ≡ []) × (after ≡ states) × (t ≡ s)
  Plays states s (p ∷ events) sent after t =
      (end : Outcome H) × (mid : Stores) × (more : List Told)
      × Goes Performs (for_worker p.who s) (turn setup.calling (plan_for setup) (state_at states p.who) p.event) (ends end) mid
      × Plays (slice_set states (p.who - 1) end.state) mid events more after t × (sent ≡ tell p.who (solid end.sent) ++ more)

-- the events, from the start of a setup on: its workers have done nothing, and there is an empty store for each VM
abbrev pub PlaysFirst : {H : Type 0} → Setup H → List Placed → List Told → List (Both H) → Stores → Type 0
PlaysFirst setup events sent after t = Plays setup (map state_of (first_workers setup setup.config.workers)) (stores_for (length setup.config.vms)) events sent after t

-- WHAT A SCRIPT SENDS: what the workers of a setup send at the script's events, from no open line on.
pub record Replays {H : Type 0} (setup : Setup H) (commands : List Command) (sent : List Told) : Type 0 where
  pub after : List (Both H)
  pub stores : Stores
  pub plays : PlaysFirst setup (placed_of commands) sent after stores

-- some first events of a script send this, and more may follow
pub record ReplaysFront {H : Type 0} (setup : Setup H) (commands : List Command) (sent : List Told) : Type 0 where
  pub front : List Placed
  pub more : List Placed
  pub after : List (Both H)
  pub stores : Stores
  pub is : placed_of commands ≡ front ++ more
  pub plays : PlaysFirst setup front sent after stores

-- workers, a world and stores that are to play these lines: nothing has happened as yet
pub record IsReady {H : Type 0} (setup : Setup H) (commands : List Command) (workers : List (Standing H)) (world : Playing) (shared : Stores) (last : ℕ) : Type 0 where
  pub workers_are : workers ≡ first_workers setup setup.config.workers
  pub world_is : world ≡ fresh (events_of commands)
  pub shared_is : shared ≡ stores_for (length setup.config.vms)
  pub last_is : last ≡ 1

-- A worker may do a turn over so many stores: there is one for each of its VMs and all that its machines use, and nothing waits to be taken.
pub record Seated {H : Type 0} (needs : H → ℕ) (stores : ℕ) (worker : Standing H) : Type 0 where
  pub vms : length worker.setting.config.vms ≤ stores
  pub enough : needs worker.state.host ≤ stores
  pub nothing_waits : worker.waiting ≡ []

abbrev pub CanTurn : {H : Type 0} → (H → ℕ) → List (Standing H) → Stores → Type 0
CanTurn needs workers shared = All (Seated needs (length shared.stores)) workers

-- a front of what waited was written, and the rest waits
pub record Flushed (waits : List ℕ) (old : Option (List ℕ)) (waiting : List ℕ) (new : Option (List ℕ)) : Type 0 where
  pub written : List ℕ
  pub gained : Gains old written new
  pub is : waits ≡ written ++ waiting

-- One turn of a worker in the script's world: it was given an event, what the turn sends was handed over, and nothing of it waits.
pub record Turns {H : Type 0} (calling : Calling H) (from : Standing H) (before : Playing) (s : Stores) (to : Standing H) (after : Playing) (t : Stores) : Type 0 where
  pub event : Event
  pub sent : List Sent
  pub goes : Goes Performs s (turn calling (rules_of from.setting) from.state event) (ends (outcome to.state sent)) t
  pub setting_is : to.setting ≡ from.setting
  pub given : happened after.trace ≡ happened before.trace ++ event ∷ []
  pub nature_is : nature after ≡ nature before
  pub steps : List Passed
  pub passed_is : after.trace ≡ before.trace ++ steps
  pub hands_over : HandsOver [] (one_turn event sent) steps []
  pub taken_is : taken_since after.trace ≡ solid sent

-- one turn of the worker at a place
pub record TurnsAt {H : Type 0} (calling : Calling H) (at : ℕ) (from : List (Standing H)) (before : Playing) (s : Stores) (to : List (Standing H)) (after : Playing) (t : Stores) : Type 0 where
  pub old : Standing H
  pub new : Standing H
  pub old_is : old ≡ slice_index_or from at old
  pub new_is : to ≡ slice_set from at new
  pub turns : Turns calling old before s new after t

-- one turn of a worker, and what it sends is printed after what waits to be written
pub record Advances {H : Type 0} (calling : Calling H) (who : ℕ) (from : List (Standing H)) (before : Playing) (s : Stores) (last : ℕ) (waits : List ℕ)
    (to : List (Standing H)) (after : Playing) (t : Stores) (last_then : ℕ) (waiting : List ℕ) : Type 0 where
  pub at : TurnsAt calling (who - 1) from before (for_worker who s) to after t
  pub last_is : last_then ≡ last_in last (tell who (solid at.turns.sent))
  pub waiting_is : waiting ≡ waits ++ printed_by last (tell who (solid at.turns.sent))
