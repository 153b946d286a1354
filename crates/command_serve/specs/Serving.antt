-- What serving comes to.
use Rattle.std.specs.Prelude.{◌≡◌, ◌⊎◌, ℕ, List, [], ◌∷◌, All, Option, map, length, Result, Ok, Err}
use Rattle.filter_host.specs.Called.{Calling}
use Rattle.fleet.specs.Run.{AnyRose, EndedBy, EndedWell}
use Rattle.fleet.specs.declared.run.FleetEnd.{FleetEnd}
use Rattle.fleet.specs.declared.run.FleetEnd.TheVariants as fleet_ends
use Rattle.gate_config.specs.declared.entries.VmEntry.{VmEntry}
use Rattle.gate_config.specs.declared.config.Config.{Config}
use Rattle.gate_io.specs.Events.{Last}
use Rattle.gate_io.specs.Nature.{Nature}
use Rattle.gate_io.specs.Sites.{IsFresh}
use Rattle.gate_io.specs.Told.{Gains, GainsFront, Rose}
use Rattle.gate_io.specs.declared.passed.Passed.{Passed}
use Rattle.gate_io.specs.declared.settings.Settings.{Settings}
use Rattle.shared_seats.specs.Closed.{ClosedOf}
use Rattle.worker_model.specs.State.{Standing}
use Rattle.command_serve.specs.Summary.{summary}
use Rattle.command_serve.specs.declared.running.ServeEnd.{ServeEnd}
use Rattle.command_serve.specs.declared.running.ServeEnd.TheVariants.{Done, SiteFault, OutFault, OutOfMemory}

-- with what the site is started
abbrev pub settings_of : Config → Option ℕ → Settings
settings_of config stop_after = record { listen = config.listen; upstream = config.upstream; workers = config.workers; stop_after = stop_after }

-- what a site tells: with what it was started and the seeds of the worlds that it handed out, where told; the worlds that it was given back
-- last; and its count of faults
pub record Seen (W : Type 0) : Type 0 where
  pub started : Option (List Settings)
  pub seeds : Option (List (List ℕ))
  pub returned : List W
  pub faults : ℕ

-- what is to be seen of a world
pub record Eyes (W : Type 0) : Type 0 where
  pub trace : W → Option (List Passed)
  pub last : W → Last
  pub nature : W → Nature
  pub faults : W → ℕ

-- The site was not started: it failed, and its faults rose, or memory ran out. It handed out no world, and nothing was written.
pub record Refused {W : Type 0} (settings : Settings) (end : ServeEnd) (old new : Seen W) (taken : Option (List ℕ)) (took : Option (List ℕ)) : Type 0 where
  pub how : ((end ≡ SiteFault) × Gains old.started (settings ∷ []) new.started × Rose old.faults new.faults) ⊎ ((end ≡ OutOfMemory) × Gains old.started [] new.started)
  pub seeds : new.seeds ≡ old.seeds
  pub returned : new.returned ≡ old.returned
  pub nothing : Gains taken [] took

-- the output took all of a text, a front of it where it failed, and nothing where memory ran out
abbrev pub Tells : ServeEnd → List ℕ → Option (List ℕ) → Option (List ℕ) → Type 0
Tells Done text taken took = Gains taken text took
Tells SiteFault text taken took = ⊥
Tells OutFault text taken took = GainsFront taken text took
Tells OutOfMemory text taken took = Gains taken [] took

-- what comes of how a fleet ended
abbrev pub Finishes : List VmEntry → Result ClosedOf FleetEnd → ServeEnd → Option (List ℕ) → Option (List ℕ) → Type 0
Finishes vms (Ok closed) end taken took = Tells end (summary vms closed) taken took
Finishes vms (Err fleet_ends.WorldFault) end taken took = (end ≡ SiteFault) × Gains taken [] took
Finishes vms (Err fleet_ends.OutOfMemory) end taken took = (end ≡ OutOfMemory) × Gains taken [] took

module _ {W H : Type 0} (eyes : Eyes W) (calling : Calling H) (first : ℕ → List ℕ → Standing H) (config : Config) where
  -- no world failed: each worker had its one life; or memory ran out in one of them, or before they began
  abbrev pub NoneFailed : List W → List W → Type 0
  NoneFailed given back =
      ((closed : ClosedOf) × EndedWell eyes.trace eyes.nature eyes.faults calling first config given back closed)
      ⊎ (EndedBy eyes.trace eyes.nature eyes.faults calling first config fleet_ends.OutOfMemory given back ⊎ (back ≡ given))

  -- How it ended, where these worlds were handed out and those given back. At the end, and where the output failed, each worker had one
  -- life, which ended with Stop, and the output took the summary of all VMs' stores and metrics, or a front of it. Else nothing was written.
  -- It was a fault where the world of a worker failed, which ended its last life, and no want of memory elsewhere hides that; the faults of a
  -- world rose. It was want of memory only where none failed. Wherever the workers began, all their calls on a VM's store stand in one history,
  -- and so do their definitions of its metrics.
  abbrev pub Ends : ServeEnd → List W → List W → Option (List ℕ) → Option (List ℕ) → Type 0
  Ends Done given back taken took =
      (closed : ClosedOf) × EndedWell eyes.trace eyes.nature eyes.faults calling first config given back closed × Gains taken (summary config.vms closed) took
  Ends OutFault given back taken took =
      (closed : ClosedOf) × EndedWell eyes.trace eyes.nature eyes.faults calling first config given back closed × GainsFront taken (summary config.vms closed) took
  Ends SiteFault given back taken took =
      EndedBy eyes.trace eyes.nature eyes.faults calling first config fleet_ends.WorldFault given back × AnyRose eyes.faults given back × Gains taken [] took
  Ends OutOfMemory given back taken took = NoneFailed given back × Gains taken [] took

  -- The site was started once, with the settings, and handed out as many worlds as there are workers, in which nothing had happened. It was
  -- given back all of them, each in its place.
  pub record Ran (settings : Settings) (end : ServeEnd) (old new : Seen W) (taken took : Option (List ℕ)) : Type 0 where
    pub started : Gains old.started (settings ∷ []) new.started
    pub worlds : List W
    pub count : length worlds ≡ config.workers
    pub fresh : All (λ w. IsFresh (eyes.trace w) (eyes.last w) (eyes.faults w)) worlds
    pub seeds : Gains old.seeds (map (λ w. (eyes.nature w).seed) worlds) new.seeds
    pub ends : Ends end worlds new.returned taken took

  -- WHAT SERVING COMES TO
  abbrev pub Serves : Settings → ServeEnd → Seen W → Seen W → Option (List ℕ) → Option (List ℕ) → Type 0
  Serves settings end old new taken took = Refused settings end old new taken took ⊎ Ran settings end old new taken took
