-- What a site in memory is, as a plain record.
use Rattle.std.specs.Prelude.{◌≡◌, ◌≢◌, ◌⊎◌, ℕ, List, [], ◌∷◌, ◌++◌, length, map, Result, Ok, Err}
use Rattle.std.specs.Global.{Vec}
use Rattle.gate_io.specs.declared.settings.Settings.{Settings}
use Rattle.gate_io.specs.declared.settings.SiteEnd.{SiteEnd}
use Rattle.gate_io.specs.declared.settings.SiteEnd.TheVariants.{Failed, OutOfMemory}
use Rattle.gate_io.specs.Calls.{risen, IsNext}
use Rattle.gate_io.specs.MemoryWorld.{MemoryWorld}

-- The worlds that it is to hand out, the settings that it was started with, the seeds of the worlds that it handed out, the
-- worlds that it was given back, how many are out, the numbers from 1 of the starts that are to fail, how many starts
-- counted so far, and how many failed.
pub record MemorySite : Type 0 where
  pub worlds : List MemoryWorld
  pub started : List Settings
  pub seeds : List (List ℕ)
  pub returned : List MemoryWorld
  pub out : ℕ
  pub fails : List ℕ
  pub calls : ℕ
  pub faults : ℕ

abbrev pub seed_in : MemoryWorld → List ℕ
seed_in w = w.seed

-- it handed out all its worlds
abbrev pub handed_out : MemorySite → Settings → MemorySite
handed_out site settings = record site {
  worlds = [];
  started = site.started ++ settings ∷ [];
  seeds = site.seeds ++ map seed_in site.worlds;
  out = length site.worlds;
  calls = risen site.calls;
}

-- it failed
abbrev pub start_failed : MemorySite → Settings → MemorySite
start_failed site settings = record site { started = site.started ++ settings ∷ []; calls = risen site.calls; faults = risen site.faults }

-- What a start does: it fails exactly where its number is listed or there are not as many worlds as workers, and else hands out the
-- worlds. All is as before where memory ran out.
abbrev pub Starts : MemorySite → Settings → Result (Vec MemoryWorld) SiteEnd → MemorySite → Type 0
Starts old settings (Ok worlds) new =
    (IsNext old.fails old.calls → ⊥) × (length old.worlds ≡ settings.workers) × (worlds.items ≡ old.worlds) × (new ≡ handed_out old settings)
Starts old settings (Err Failed) new = (IsNext old.fails old.calls ⊎ (length old.worlds ≢ settings.workers)) × (new ≡ start_failed old settings)
Starts old settings (Err OutOfMemory) new = new ≡ old
