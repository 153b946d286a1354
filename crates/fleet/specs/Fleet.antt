-- What the posts of a fleet come to.
use Rattle.std.specs.Prelude.{◌≡◌, ℕ, ◌≤◌, List, [], ◌∷◌, Option, length}
use Rattle.filter_host.specs.Called.{Calling}
use Rattle.gate_config.specs.declared.config.Config.{Config}
use Rattle.gate_io.specs.Nature.{Nature}
use Rattle.gate_io.specs.Told.{Rose}
use Rattle.gate_io.specs.declared.passed.Passed.{Passed}
use Rattle.shared_seats.specs.Moving.{SeatsGoOn}
use Rattle.shared_seats.specs.Seats.{AreAt, TablesOf}
use Rattle.worker_model.specs.State.{Standing}
use Rattle.worker_model.specs.declared.types.Turn.TheVariants.{WorldFault}
use Rattle.fleet.specs.Lives.{Lives}
use Rattle.fleet.specs.declared.post.Post.{Post}

-- each of the first list stands so to that of the second at its place
abbrev pub Each : {A B : Type 0} → (A → B → Type 0) → List A → List B → Type 0
Each R [] [] = Unit {0}
Each R [] (y ∷ ys) = ⊥
Each R (x ∷ xs) [] = ⊥
Each R (x ∷ xs) (y ∷ ys) = R x y × Each R xs ys

module _ {W : Type 0} where
  -- its seats are at the tables, of which there are enough
  abbrev pub IsReady : TablesOf → Config → Post W → Type 0
  IsReady tables config post = AreAt tables post.seats × (length config.vms ≤ length post.seats.stores)

  module _ {H : Type 0} (trace_of : W → Option (List Passed)) (nature_of : W → Nature) (faults_of : W → ℕ) (calling : Calling H) (first : ℕ → List ℕ → Standing H) where
    -- a post did its worker's lives, each of which began as the first standing of the worker with its number and its world's seed
    pub record HasWorked (old new : Post W) : Type 0 where
      pub who : new.who ≡ old.who
      pub nature : nature_of new.watched ≡ nature_of old.watched
      pub faults : faults_of old.watched ≤ faults_of new.watched
      pub fault : new.end ≡ WorldFault → Rose (faults_of old.watched) (faults_of new.watched)
      pub lives : Lives calling SeatsGoOn (first old.who (nature_of old.watched).seed) old.seats (trace_of old.watched) new.end new.again new.seats (trace_of new.watched)
