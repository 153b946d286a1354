-- The outside of all workers: the worlds that it hands out, and what it notes of a start.
use Rattle.std.specs.Prelude.{◌≡◌, ℕ, List, [], ◌∷◌, All, Option, Some, IfSome, Result, Ok, Err}
use Rattle.gate_io.specs.declared.passed.Passed.{Passed}
use Rattle.gate_io.specs.declared.settings.Settings.{Settings}
use Rattle.gate_io.specs.declared.settings.SiteEnd.{SiteEnd}
use Rattle.gate_io.specs.declared.settings.SiteEnd.TheVariants.{Failed, OutOfMemory}
use Rattle.gate_io.specs.Events.{Last, nothing_given}
use Rattle.gate_io.specs.MemoryWorld.{MemoryWorld, last_in}

-- A world in which nothing has passed, where that is told, and in which no fault was counted
pub record IsFresh (trace : Option (List Passed)) (last : Last) (faults : ℕ) : Type 0 where
  pub nothing_passed : IfSome trace (λ t. t ≡ [])
  pub nothing_given : last ≡ nothing_given
  pub no_fault : faults ≡ 0

-- the settings that a start noted: none where memory ran out
abbrev pub noted : {W : Type 0} → Settings → Result W SiteEnd → List Settings
noted settings (Ok worlds) = settings ∷ []
noted settings (Err Failed) = settings ∷ []
noted settings (Err OutOfMemory) = []

-- worlds in memory in which nothing has happened
abbrev pub AreFresh : List MemoryWorld → Type 0
AreFresh worlds = All (λ w. IsFresh (Some w.trace) (last_in w) w.faults) worlds
