-- Runs over seats that no other worker's calls come between: those of one thread's stores.
use Rattle.std.specs.Prelude.{◌≡◌, ℕ, ◌<◌, false, List, [], ◌∷◌, length, Option}
use Rattle.filter_host.specs.Called.{Calling}
use Rattle.filter_host.specs.Course.{calls_in}
use Rattle.gate_config.specs.declared.config.Config.{Config}
use Rattle.gate_io.specs.Nature.{Nature}
use Rattle.gate_io.specs.declared.event.Event.{Event}
use Rattle.gate_io.specs.declared.passed.Passed.{Passed}
use Rattle.worker_meaning.specs.Meaning.{Means}
use Rattle.send_queue.specs.Turns.{events_of}
use Rattle.shared_seats.specs.Closed.{ClosedOf}
use Rattle.shared_seats.specs.Moving.{SeatsGoOn}
use Rattle.shared_seats.specs.Seats.{SeatsOf}
use Rattle.shared_store.specs.Fresh.{fresh_metrics, fresh_stores}
use Rattle.store_model.specs.History.{IsLegal}
use Rattle.store_model.specs.Made.{Made, MadeCall, asks_among, calls_among, entries_on, made, made_ask}
use Rattle.store_model.specs.Sequential.{Performs, Stores}
use Rattle.store_model.specs.declared.call.Call.TheVariants.{Dequeue}
use Rattle.store_model.specs.declared.call.Reply.TheVariants.{Absent, Empty}
use Rattle.store_model.specs.declared.metric.MetricAsk.TheVariants.{Sum}
use Rattle.store_model.specs.declared.metric.MetricReply.TheVariants.{Unknown}
use Rattle.worker_model.specs.State.{Standing}
use Rattle.worker_model.specs.declared.types.Turn.TheVariants.{Stopped}
use Rattle.fleet.specs.Fleet.{HasWorked}
use Rattle.fleet.specs.Made.{events_of_each, made_in, standing_at_end}
use Rattle.fleet.specs.Run.{Ended}
use Rattle.fleet.specs.declared.post.Post.{Post}

-- so many empty stores, which one worker calls from one thread
abbrev pub own_stores : (who n : ℕ) → Stores
own_stores who n = record { who = who; stores = fresh_stores n; metrics = fresh_metrics n }

-- each call is on one of so many stores
abbrev pub AreWithin : ℕ → List MadeCall → Type 0
AreWithin n [] = Unit {0}
AreWithin n (m ∷ calls) = (m.vm < n) × AreWithin n calls

-- A WORKER'S CALLS ARE ALONE: each is on one of so many stores; on each of these they are, as the worker's entries, a legal history by themselves, from
-- the empty store on; and no metrics are asked.
pub record AreAlone (who n : ℕ) (calls : List Made) : Type 0 where
  pub within : AreWithin n (calls_among calls)
  pub legal : (vm : ℕ) → vm < n → IsLegal vm (entries_on who vm calls)
  pub no_asks : asks_among calls ≡ []

-- the turns of a run over seats, and their calls, are those of a run over one thread's stores between the same standings
pub record IsOfOneThread {H : Type 0} (calling : Calling H) (who n : ℕ) (s : SeatsOf) (old : Option (List Passed)) (from to : Standing H) (t : SeatsOf) (new : Option (List Passed))
    (life : Means calling SeatsGoOn s old from to t new) : Type 0 where
  pub shared : Stores
  pub run : Means calling Performs (own_stores who n) old from to shared new
  pub turns_are : run.turns ≡ life.turns
  pub calls_are : calls_in run.goes.met ≡ calls_in life.goes.met

-- A RUN OVER SEATS WHOSE CALLS ARE ALONE IS ONE OVER ONE THREAD'S STORES, as that of a script is.
abbrev pub RunsAloneAreOfOneThread : {H : Type 0} → Calling H → Type 0
RunsAloneAreOfOneThread {H} calling =
    (who n : ℕ) (s : SeatsOf) (old : Option (List Passed)) (from to : Standing H) (t : SeatsOf) (new : Option (List Passed))
    → (life : Means calling SeatsGoOn s old from to t new) → AreAlone who n (calls_in life.goes.met) → IsOfOneThread calling who n s old from to t new life

-- There is one life; and from one standing to the other a run of whole turns over one thread's stores has its events and these calls. In a world that tells
-- what passed, what it told is what passes in this run.
pub record IsOneRun {H : Type 0} (calling : Calling H) (n : ℕ) (from to : Standing H) (old new : Option (List Passed)) (lives : List (List Event)) (calls : List Made) : Type 0 where
  pub shared : Stores
  pub run : Means calling Performs (own_stores 1 n) old from to shared new
  pub events_are : events_of run.turns ∷ [] ≡ lives
  pub calls_are : calls_in run.goes.met ≡ calls

module _ {W H : Type 0} (trace_of : W → Option (List Passed)) (nature_of : W → Nature) (faults_of : W → ℕ) (calling : Calling H) where
  -- IN A FLEET OF ONE WORKER its calls on the store of each VM of the configuration are a legal history by themselves, however it ended
  abbrev pub OneWorkerIsAlone : Type 0
  OneWorkerIsAlone =
      (first : ℕ → List ℕ → Standing H) (config : Config) (old new : List W) (closed : ClosedOf) (ended : Ended trace_of nature_of faults_of calling first config old new closed) (p q : Post W)
      → config.workers ≡ 1 → ended.worked.before ≡ p ∷ [] → ended.worked.after ≡ q ∷ [] → (h : HasWorked trace_of nature_of faults_of calling first p q) → (vm : ℕ) → vm < length config.vms
      → IsLegal vm (entries_on 1 vm (made_in calling SeatsGoOn _ p.seats _ q.end q.again q.seats _ h.lives))

  -- IN A FLEET OF ONE WORKER WHICH HAD ONE LIFE THAT ENDED WITH STOP, whose calls are on stores of VMs of the configuration and which asked no metrics, it
  -- came to its last standing, at the events of this life and with its calls, as their meaning says over the stores of one thread.
  abbrev pub OneWorkerIsOfOneThread : Type 0
  OneWorkerIsOfOneThread =
      (first : ℕ → List ℕ → Standing H) (config : Config) (old new : List W) (closed : ClosedOf) (ended : Ended trace_of nature_of faults_of calling first config old new closed) (p q : Post W)
      → config.workers ≡ 1 → ended.worked.before ≡ p ∷ [] → ended.worked.after ≡ q ∷ [] → q.end ≡ Stopped → q.again ≡ false → (h : HasWorked trace_of nature_of faults_of calling first p q)
      → AreWithin (length config.vms) (calls_among (made_in calling SeatsGoOn _ p.seats _ q.end q.again q.seats _ h.lives)) → asks_among (made_in calling SeatsGoOn _ p.seats _ q.end q.again q.seats _ h.lives) ≡ []
      → IsOneRun calling (length config.vms) (first p.who (nature_of p.watched).seed) (standing_at_end calling SeatsGoOn _ p.seats _ q.end q.again q.seats _ h.lives) (trace_of p.watched) (trace_of q.watched)
      (events_of_each calling SeatsGoOn _ p.seats _ q.end q.again q.seats _ h.lives) (made_in calling SeatsGoOn _ p.seats _ q.end q.again q.seats _ h.lives)

-- ---- worked examples

pub record AloneExamples : Type 0 where
  -- no calls; a queue that is not there, asked by a worker of its two stores
  pub none : (who n : ℕ) → AreAlone who n []
  pub absent : AreAlone 1 2 (made 1 (Dequeue 5) Absent ∷ [])
  -- not on a store that is not there, not with a reply that only another worker's call could give, and not with metrics
  pub outside : AreAlone 1 2 (made 2 (Dequeue 5) Absent ∷ []) → ⊥
  pub of_another : AreAlone 1 2 (made 1 (Dequeue 5) Empty ∷ []) → ⊥
  pub with_metrics : AreAlone 1 2 (made_ask 1 (Sum 1) Unknown ∷ []) → ⊥
