-- The lives of a worker, one after another.
use Rattle.std.specs.Prelude.{◌≡◌, ◌≢◌, ◌≤◌, ℕ, Bool, true, false, zero, suc, ◌⊎◌, ◌&&◌, List, Option}
use Rattle.filter_host.specs.Called.{Calling}
use Rattle.filter_host.specs.declared.host.Callback.{Callback}
use Rattle.fleet.specs.Closing.{Closes, ClosesAll}
use Rattle.gate_config.specs.declared.config.Config.{Config}
use Rattle.gate_io.specs.declared.passed.Passed.{Passed}
use Rattle.store_model.specs.Made.{Made}
use Rattle.worker_model.specs.Making.{new_worker}
use Rattle.worker_model.specs.State.{Standing}
use Rattle.streams_model.specs.Turned.{Turned}
use Rattle.worker_model.specs.declared.types.Turn.{Turn}
use Rattle.worker_model.specs.declared.types.Turn.TheVariants.{Went, Stopped, WorldFault, OutOfMemory}

abbrev pub is_memory : Turn → Bool
is_memory Went = false
is_memory Stopped = false
is_memory WorldFault = false
is_memory OutOfMemory = true

-- what a worker is when a life of it begins: each begins alike
abbrev pub first_of : {H : Type 0} → (H → ℕ → Callback → Bool) → (H → ℕ → Bool) → Config → H → ℕ → List ℕ → Standing H
first_of exported registering config host who seed = new_worker exported registering config who seed host

module _ {H S : Type 0} (calling : Calling H) (performs : S → List Made → S → Type 0) where
  -- so many turns that took an event each, which was not Stop
  abbrev pub Turns : ℕ → S → Option (List Passed) → Standing H → Standing H → S → Option (List Passed) → Type 0
  Turns zero s old from to t new = (to ≡ from) × (t ≡ s) × (new ≡ old)
  Turns (suc n) s old from to t new = (at : Standing H) × (u : S) × (mid : Option (List Passed)) × Turns n s old from at u mid × Turned calling performs u mid at Went to t new × (to.setting ≡ at.setting)

  -- turns from a standing on, of which the last ended so, and was not one after which a worker goes on
  pub record Life (s : S) (old : Option (List Passed)) (from : Standing H) (end : Turn) (to : Standing H) (t : S) (new : Option (List Passed)) : Type 0 where
    pub count : ℕ
    pub before : Standing H
    pub at : S
    pub mid : Option (List Passed)
    pub went : Turns count s old from before at mid
    pub last : Turned calling performs at mid before end to t new
    pub setting_is : to.setting ≡ before.setting
    pub ended : end ≢ Went

  module _ (first : Standing H) where
    -- a life that ended so, and whether it took an event
    pub record Lived (s : S) (old : Option (List Passed)) (end : Turn) (took : Bool) (t : S) (new : Option (List Passed)) : Type 0 where
      pub after : Standing H
      pub life : Life s old first end after t new
      pub took_is : after.took ≡ took

    -- there was no memory to begin it
    pub record NotBegun (s : S) (old : Option (List Passed)) (end : Turn) (took : Bool) (t : S) (new : Option (List Passed)) : Type 0 where
      pub end_is : end ≡ OutOfMemory
      pub took_is : took ≡ false
      pub shared : t ≡ s
      pub told : new ≡ old

    abbrev pub OneLife : S → Option (List Passed) → Turn → Bool → S → Option (List Passed) → Type 0
    OneLife s old end took t new = Lived s old end took t new ⊎ NotBegun s old end took t new

    -- A life that took an event and ended for want of memory, and then each connection that stood at its end is closed, once, and nothing else passes
    pub record Ended (s : S) (old : Option (List Passed)) (t : S) (new : Option (List Passed)) : Type 0 where
      pub left : Option (List Passed)
      pub lived : Lived s old OutOfMemory true t left
      pub closes : ClosesAll left new

    -- the same where memory ran out among the closes: some of them are closed, once, and the others stand still
    pub record Cut (s : S) (old : Option (List Passed)) (end : Turn) (t : S) (new : Option (List Passed)) : Type 0 where
      pub end_is : end ≡ OutOfMemory
      pub left : Option (List Passed)
      pub lived : Lived s old OutOfMemory true t left
      pub closes : Closes left new

    -- so many that ended, one after the other
    abbrev pub Early : ℕ → S → Option (List Passed) → S → Option (List Passed) → Type 0
    Early zero s old t new = (t ≡ s) × (new ≡ old)
    Early (suc n) s old t new = (u : S) × (mid : Option (List Passed)) × Early n s old u mid × Ended u mid t new

    -- the last life, which did not both take an event and end for want of memory
    pub record Last (s : S) (old : Option (List Passed)) (end : Turn) (t : S) (new : Option (List Passed)) : Type 0 where
      pub took : Bool
      pub once : OneLife s old end took t new
      pub none : (is_memory end && took) ≡ false

    -- THE LIVES OF A WORKER: some that took an event and ended for want of memory, each with its connections closed; and then the last one,
    -- or one whose connections could not all be closed. It is told whether one ended for want of memory before the last: where not, there is no other.
    pub record Lives (s : S) (old : Option (List Passed)) (end : Turn) (again : Bool) (t : S) (new : Option (List Passed)) : Type 0 where
      pub count : ℕ
      pub at : S
      pub mid : Option (List Passed)
      pub early : Early count s old at mid
      pub once : again ≡ false → count ≡ 0
      pub more : again ≡ true → (1 ≤ count) ⊎ (end ≡ OutOfMemory)
      pub last : Last at mid end t new ⊎ Cut at mid end t new
