-- The calls of all workers of a fleet, and the one history of each VM's store.
use Rattle.std.specs.Prelude.{◌≡◌, ◌==◌, ℕ, ◌<◌, ◌≤◌, if◌then◌else◌, All, List, [], ◌∷◌, length, map, reverse, Option}
use Rattle.filter_host.specs.Called.{Calling}
use mathlib.Core.Option.{some}
use lib.ListN.{get_elem?}
use Rattle.fleet.specs.Fleet.{Each, HasWorked}
use Rattle.fleet.specs.Laws.{AreMeant, HasOne}
use Rattle.fleet.specs.Made.{events_of_each, made_in}
use Rattle.fleet.specs.Moves.{seats_in}
use Rattle.fleet.specs.Run.{Ended}
use Rattle.fleet.specs.declared.post.Post.{Post}
use Rattle.gate_config.specs.declared.config.Config.{Config}
use Rattle.gate_io.specs.Nature.{Nature}
use Rattle.gate_io.specs.declared.event.Event.{Event}
use Rattle.gate_io.specs.declared.passed.Passed.{Passed}
use Rattle.metric_seats.specs.Measuring.{asks_on}
use Rattle.shared_seats.specs.Asked.{definitions_by}
use Rattle.shared_seats.specs.Closed.{ClosedOf}
use Rattle.shared_seats.specs.Moving.{SeatsGoOn}
use Rattle.store_model.specs.History.{own}
use Rattle.store_model.specs.Made.{Made, entries_on}
use Rattle.store_model.specs.declared.entry.Entry.{Entry}
use Rattle.worker_model.specs.State.{Standing}

-- of one of so many workers
abbrev pub IsOfAWorker : ℕ → Entry → Type 0
IsOfAWorker workers e = (1 ≤ e.who) × (e.who ≤ workers)

module _ {W H : Type 0} (trace_of : W → Option (List Passed)) (nature_of : W → Nature) (faults_of : W → ℕ) (calling : Calling H) where
  -- a post did its worker's lives
  abbrev pub Did : (ℕ → List ℕ → Standing H) → Post W → Post W → Type 0
  Did first = HasWorked trace_of nature_of faults_of calling first

  -- THE CALLS OF THE WORKER WITH A NUMBER: those of the lives that its post did, turn by turn
  abbrev pub made_by : (first : ℕ → List ℕ → Standing H) (who : ℕ) (before after : List (Post W)) → Each (Did first) before after → List Made
  made_by first who [] after each = []
  made_by first who (p ∷ ps) [] each = []
  made_by first who (p ∷ ps) (q ∷ qs) each = if p.who == who then made_in calling SeatsGoOn _ p.seats _ q.end q.again q.seats _ each.0.lives else made_by first who ps qs each.1

  -- THE EVENTS OF EACH LIFE OF THE WORKER WITH A NUMBER, of the lives that its post did
  abbrev pub events_by : (first : ℕ → List ℕ → Standing H) (who : ℕ) (before after : List (Post W)) → Each (Did first) before after → List (List Event)
  events_by first who [] after each = []
  events_by first who (p ∷ ps) [] each = []
  events_by first who (p ∷ ps) (q ∷ qs) each = if p.who == who then events_of_each calling SeatsGoOn _ p.seats _ q.end q.again q.seats _ each.0.lives else events_by first who ps qs each.1

  -- A VM's one history has the calls of each worker, each once and in its order, and no others; and so has that of its definitions. A worker's calls are
  -- those that the meanings of the events of its lives call first; and in a world that tells what passed these events are those that it told of giving.
  pub record HasAll (first : ℕ → List ℕ → Standing H) (config : Config) (old new : List W) (closed : ClosedOf) (ended : Ended trace_of nature_of faults_of calling first config old new closed) (vm : ℕ) : Type 0 where
    pub one : HasOne vm (reverse (map seats_in ended.worked.after)) closed
    pub calls : (who : ℕ) → 1 ≤ who → who ≤ config.workers → own who one.calls.history ≡ entries_on who vm (made_by first who ended.worked.before ended.worked.after ended.worked.worked)
    pub no_other_calls : All (IsOfAWorker config.workers) one.calls.history
    pub definitions : (who : ℕ) → 1 ≤ who → who ≤ config.workers → own who one.asks.history ≡ definitions_by who (asks_on vm (made_by first who ended.worked.before ended.worked.after ended.worked.worked))
    pub no_other_definitions : All (IsOfAWorker config.workers) one.asks.history
    pub meant : (k : ℕ) (p q : Post W) → get_elem? ended.worked.before k ≡ some p → get_elem? ended.worked.after k ≡ some q
        → AreMeant calling (first p.who (nature_of p.watched).seed) p.seats (trace_of p.watched) q.again q.seats (trace_of q.watched)
        (events_by first p.who ended.worked.before ended.worked.after ended.worked.worked) (made_by first p.who ended.worked.before ended.worked.after ended.worked.worked)

  -- EACH CALL STANDS ONCE in the one legal history of its VM's store, however the workers of the fleet ended.
  abbrev pub EachCallStandsOnce : Type 0
  EachCallStandsOnce =
      (first : ℕ → List ℕ → Standing H) (config : Config) (old new : List W) (closed : ClosedOf) (ended : Ended trace_of nature_of faults_of calling first config old new closed) (vm : ℕ)
      → vm < length config.vms → HasAll first config old new closed ended vm

  -- ---- worked examples

  pub record CallsExamples : Type 0 where
    -- Of two posts, that of worker 2 in front, each worker's calls are those of its own post's lives
    pub second : (first : ℕ → List ℕ → Standing H) (p q r s : Post W) (worked : Did first p q) (other : Did first r s) → p.who ≡ 2 → r.who ≡ 1
        → made_by first 2 (p ∷ r ∷ []) (q ∷ s ∷ []) (worked, (other, tt)) ≡ made_in calling SeatsGoOn _ p.seats _ q.end q.again q.seats _ worked.lives
    pub first : (first : ℕ → List ℕ → Standing H) (p q r s : Post W) (worked : Did first p q) (other : Did first r s) → p.who ≡ 2 → r.who ≡ 1
        → made_by first 1 (p ∷ r ∷ []) (q ∷ s ∷ []) (worked, (other, tt)) ≡ made_in calling SeatsGoOn _ r.seats _ s.end s.again s.seats _ other.lives
    -- and there is no third worker
    pub third : (first : ℕ → List ℕ → Standing H) (p q r s : Post W) (worked : Did first p q) (other : Did first r s) → p.who ≡ 2 → r.who ≡ 1
        → made_by first 3 (p ∷ r ∷ []) (q ∷ s ∷ []) (worked, (other, tt)) ≡ []
    -- so it is with the events of each life
    pub events_of_second : (first : ℕ → List ℕ → Standing H) (p q r s : Post W) (worked : Did first p q) (other : Did first r s) → p.who ≡ 2 → r.who ≡ 1
        → events_by first 2 (p ∷ r ∷ []) (q ∷ s ∷ []) (worked, (other, tt)) ≡ events_of_each calling SeatsGoOn _ p.seats _ q.end q.again q.seats _ worked.lives
    pub events_of_first : (first : ℕ → List ℕ → Standing H) (p q r s : Post W) (worked : Did first p q) (other : Did first r s) → p.who ≡ 2 → r.who ≡ 1
        → events_by first 1 (p ∷ r ∷ []) (q ∷ s ∷ []) (worked, (other, tt)) ≡ events_of_each calling SeatsGoOn _ r.seats _ s.end s.again s.seats _ other.lives
