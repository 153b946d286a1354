-- THE HEADLINE: what the workers of a run did, told by what their events mean.
use Rattle.std.specs.Prelude.{◌≡◌, ◌⊎◌, ℕ, ◌<◌, ◌≤◌, All, List, [], ◌∷◌, ◌++◌, length}
use Rattle.std.specs.List.{flat_map}
use Rattle.filter_host.specs.Called.{Calling}
use Rattle.filter_host.specs.Course.{Course, ends, Met, Reaches, calls_in}
use Rattle.fleet.specs.Closing.{AreCloses}
use Rattle.law_fleet.specs.Calls.{IsOfAWorker}
use Rattle.gate_config.specs.declared.config.Config.{Config}
use Rattle.gate_io.specs.declared.event.Event.{Event}
use Rattle.gate_io.specs.declared.passed.Passed.{Passed}
use Rattle.gate_io.specs.declared.passed.Passed.TheVariants.{Asked, Gave}
use Rattle.gate_io.specs.declared.passed.Wants.{Wants}
use Rattle.gate_io.specs.declared.event.Sent.{Sent}
use Rattle.worker_meaning.specs.Meaning.{meaning, run}
use Rattle.send_queue.specs.Delivery.{Delivered}
use Rattle.send_queue.specs.Turns.{OneTurn, Delivers, to_go}
use Rattle.store_model.specs.History.{own, IsLegal}
use Rattle.store_model.specs.Made.{Made, entries_on}
use Rattle.store_model.specs.declared.entry.Entry.{Entry}
use Rattle.worker_model.specs.State.{Standing, rules_of}
use Rattle.worker_model.specs.Steps.{Both}
use Rattle.worker_model.specs.Turn.{Outcome}
use Rattle.streams_model.specs.Turn.{turn}
use Rattle.worker_model.specs.Turned.{one_turn}

-- A life of a worker: the events that it was given; what its turns met (each call of a store with its reply, and each thing that was read); what
-- passed in its world; and the closes after its end
pub record Life : Type 0 where
  pub events : List Event
  pub met : List Met
  pub passed : List Passed
  pub closes : List Passed

-- the calls of lives, one life after another
abbrev pub calls_of : List Life → List Made
calls_of lives = flat_map (λ (l : Life). calls_in l.met) lives

-- the events of lives
abbrev pub events_of : List Life → List Event
events_of lives = flat_map (λ (l : Life). l.events) lives

-- what passed in lives, the closes of each with it
abbrev pub passed_in : List Life → List Passed
passed_in lives = flat_map (λ (l : Life). l.passed ++ l.closes) lives

module _ {H : Type 0} (calling : Calling H) (first : Standing H) where
  -- Turns that are what these events mean, with what was met. What they send was delivered, or waits.
  pub record AreTurns (events : List Event) (met : List Met) (passed : List Passed) : Type 0 where
    pub state : Both H
    pub turns : List OneTurn
    pub means : Reaches (meaning calling first events) met (ends (run state turns))
    pub waits : List Sent
    pub delivers : Delivers first.waiting turns passed waits

  -- A WHOLE LIFE: every turn came to its end. After them an event may have been asked for in vain.
  pub record IsWhole (life : Life) : Type 0 where
    pub steps : List Passed
    pub vain : List Passed
    pub passed_is : life.passed ≡ steps ++ vain
    pub in_vain : (vain ≡ []) ⊎ ((wants : Wants) × (vain ≡ Asked wants ∷ []))
    pub turns : AreTurns life.events life.met steps

  -- A CUT LIFE: memory ran out in the turn of the last event. Either the turn was on its way, and nothing that it sends was taken; or what it sends was
  -- being handed over, and at each place a prefix of it was taken.
  pub record IsCut (life : Life) : Type 0 where
    pub before : List Event
    pub event : Event
    pub events_is : life.events ≡ before ++ event ∷ []
    pub earlier : List Met
    pub later : List Met
    pub met_is : life.met ≡ earlier ++ later
    pub steps : List Passed
    pub wants : Wants
    pub taken : List Passed
    pub passed_is : life.passed ≡ steps ++ Asked wants ∷ Gave event ∷ taken
    pub turns : AreTurns before earlier steps
    pub left : Course (Outcome H)
    pub goes : Reaches (turn calling (rules_of first.setting) turns.state event) later left
    pub front : (taken ≡ []) ⊎ ((end : Outcome H) × (rest : List Sent) × (left ≡ ends end) × Delivered (to_go turns.waits (one_turn event end.sent)) taken rest)

  -- A LIFE IS WHAT ITS EVENTS MEAN
  abbrev pub IsMeant : Life → Type 0
  IsMeant life = (IsWhole life ⊎ IsCut life) × AreCloses life.closes

-- ONE LEGAL HISTORY of a VM's store: each reply is that of the store after the entries before it; it holds the calls of each worker, each once and in the
-- worker's order, and nobody else's
pub record HasHistory (workers : ℕ) (calls : ℕ → List Made) (vm : ℕ) : Type 0 where
  pub history : List Entry
  pub legal : IsLegal vm history
  pub of_each : (who : ℕ) → 1 ≤ who → who ≤ workers → own who history ≡ entries_on who vm (calls who)
  pub no_others : All (IsOfAWorker workers) history

-- WHAT A WORKER DID: its lives, from where a worker of its number and its world's seed begins; each is what its events mean; and they called that.
pub record Did {H : Type 0} (calling : Calling H) (first : List ℕ → Standing H) (World : List ℕ → List Life → Type 0) (calls : List Made) : Type 0 where
  pub seed : List ℕ
  pub lives : List Life
  pub meant : All (IsMeant calling (first seed)) lives
  pub calls_are : calls ≡ calls_of lives
  pub world : World seed lives

-- THE HEADLINE. Whatever the order in which workers ran: each worker did what the events of its lives mean, with the replies that it was given; and on
-- the store of each VM the calls of all of them stand in one legal history. `World` says what the world of a worker told.
pub record Headline {H : Type 0} (calling : Calling H) (first : ℕ → List ℕ → Standing H) (config : Config) (World : ℕ → List ℕ → List Life → Type 0) : Type 0 where
  pub calls : ℕ → List Made
  pub each : (who : ℕ) → 1 ≤ who → who ≤ config.workers → Did calling (first who) (World who) (calls who)
  pub histories : (vm : ℕ) → vm < length config.vms → HasHistory config.workers calls vm
