-- What a fleet comes to.
use Rattle.std.specs.Prelude.{◌≡◌, ◌⊎◌, ◌&&◌, ◌||◌, not, ℕ, Bool, true, false, if◌then◌else◌, All, List, [], ◌∷◌, length, map, reverse, Option, None, Some, Result, Ok, Err}
use Rattle.filter_host.specs.Called.{Calling}
use Rattle.std.specs.List.{list_any}
use Rattle.gate_config.specs.declared.config.Config.{Config}
use Rattle.gate_io.specs.Nature.{Nature}
use Rattle.gate_io.specs.Told.{Rose}
use Rattle.gate_io.specs.declared.passed.Passed.{Passed}
use Rattle.shared_seats.specs.Closed.{ClosedOf}
use Rattle.shared_seats.specs.Seats.{SeatsOf, TablesOf}
use Rattle.shared_seats.specs.Workers.{AreNew, AreNumbered, AreShut}
use Rattle.worker_model.specs.State.{Standing}
use Rattle.worker_model.specs.declared.types.Turn.{Turn}
use Rattle.worker_model.specs.declared.types.Turn.TheVariants.{Went, Stopped, WorldFault, OutOfMemory}
use Rattle.fleet.specs.Fleet.{Each, HasWorked}
use Rattle.fleet.specs.Lives.{is_memory}
use Rattle.fleet.specs.Moves.{AreFrom, seats_in, world_in}
use Rattle.fleet.specs.declared.post.Post.{Post}
use Rattle.fleet.specs.declared.run.FleetEnd.{FleetEnd}
use Rattle.fleet.specs.declared.run.FleetEnd.TheVariants as fleet_ends

abbrev pub is_stopped : Turn → Bool
is_stopped Went = false
is_stopped Stopped = true
is_stopped WorldFault = false
is_stopped OutOfMemory = false

abbrev pub is_fault : Turn → Bool
is_fault Went = false
is_fault Stopped = false
is_fault WorldFault = true
is_fault OutOfMemory = false

-- its worker had one life, which ended with Stop
abbrev pub is_clean : {W : Type 0} → Post W → Bool
is_clean p = is_stopped p.end && not p.again

-- its worker's last life ended since its world failed
abbrev pub has_failed : {W : Type 0} → Post W → Bool
has_failed p = is_fault p.end

-- a life of its worker ended for want of memory, or could not begin
abbrev pub ran_short : {W : Type 0} → Post W → Bool
ran_short p = is_memory p.end || p.again

-- WHY A FLEET DID NOT END WELL, if so: a world failed; or none did, and a worker ran out of memory
abbrev pub end_of : {W : Type 0} → List (Post W) → Option FleetEnd
end_of posts = if list_any has_failed posts then Some fleet_ends.WorldFault else if list_any ran_short posts then Some fleet_ends.OutOfMemory else None

module _ {W H : Type 0} (trace_of : W → Option (List Passed)) (nature_of : W → Nature) (faults_of : W → ℕ) (calling : Calling H) (first : ℕ → List ℕ → Standing H) (config : Config) where
  -- There were tables of the store and of the metrics of each VM, in their order. Each world was at a post with new seats at them, whose worker
  -- lived there. The worlds stand at their places again.
  pub record Worked (old new : List W) : Type 0 where
    pub tables : TablesOf
    pub stores : length tables.stores ≡ length config.vms
    pub metrics : length tables.metrics ≡ length config.vms
    pub numbered : AreNumbered tables
    pub before : List (Post W)
    pub after : List (Post W)
    pub old_is : reverse (map world_in before) ≡ old
    pub new_is : new ≡ reverse (map world_in after)
    pub numbers : AreFrom 0 before
    pub seats : AreNew tables config.workers (reverse (map seats_in before))
    pub worked : Each (HasWorked trace_of nature_of faults_of calling first) before after

  -- WHERE A FLEET BEGAN, however it ended: its workers had their lives, and the tables, each VM's store and metrics, were shut with the seats of
  -- all of them. So each VM's store has one history with the calls of all workers, and each VM's metrics one with their definitions.
  pub record Ended (old new : List W) (closed : ClosedOf) : Type 0 where
    pub worked : Worked old new
    pub shut : AreShut worked.tables (reverse (map seats_in worked.after)) closed

  -- WHERE IT ENDED WELL: each worker had one life, which ended with Stop
  pub record EndedWell (old new : List W) (closed : ClosedOf) : Type 0 where
    pub ended : Ended old new closed
    pub clean : All (λ p. is_clean p ≡ true) ended.worked.after

  -- WHERE IT DID NOT END WELL, for this cause, which is that of its workers' ends
  pub record EndedBy (cause : FleetEnd) (old new : List W) : Type 0 where
    pub closed : ClosedOf
    pub ended : Ended old new closed
    pub cause_is : end_of ended.worked.after ≡ Some cause

  -- it ended well; or a world failed; or none did, and a worker ran out of memory, or it did not begin and the worlds are as they were
  abbrev pub Ran : List W → List W → Result ClosedOf FleetEnd → Type 0
  Ran old new (Ok closed) = EndedWell old new closed
  Ran old new (Err fleet_ends.WorldFault) = EndedBy fleet_ends.WorldFault old new
  Ran old new (Err fleet_ends.OutOfMemory) = EndedBy fleet_ends.OutOfMemory old new ⊎ (new ≡ old)

-- the faults of a world of the list rose
abbrev pub AnyRose : {W : Type 0} → (W → ℕ) → List W → List W → Type 0
AnyRose f [] ys = ⊥
AnyRose f (x ∷ xs) [] = ⊥
AnyRose f (x ∷ xs) (y ∷ ys) = Rose (f x) (f y) ⊎ AnyRose f xs ys

-- ---- worked examples

abbrev pub post_of : {W : Type 0} → W → SeatsOf → ℕ → Turn → Bool → Post W
post_of world seats who end again = record { watched = world; seats = seats; who = who; end = end; again = again }

pub record EndExamples (W : Type 0) : Type 0 where
  -- each worker stopped in its one life
  pub well : (w v : W) (s t : SeatsOf) → end_of (post_of w s 1 Stopped false ∷ post_of v t 2 Stopped false ∷ []) ≡ None
  -- one ran out of memory, in its last life or in one before
  pub last_life : (w v : W) (s t : SeatsOf) → end_of (post_of w s 1 Stopped false ∷ post_of v t 2 OutOfMemory false ∷ []) ≡ Some fleet_ends.OutOfMemory
  pub life_before : (w v : W) (s t : SeatsOf) → end_of (post_of w s 1 Stopped true ∷ post_of v t 2 Stopped false ∷ []) ≡ Some fleet_ends.OutOfMemory
  -- a world that failed is told, though another worker ran out of memory
  pub fault_first : (w v : W) (s t : SeatsOf) → end_of (post_of w s 1 OutOfMemory true ∷ post_of v t 2 WorldFault false ∷ []) ≡ Some fleet_ends.WorldFault
