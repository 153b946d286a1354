-- How long a connection lasts that was closed.
use Rattle.std.specs.Prelude.{◌≡◌, ◌⊎◌, ℕ, ◌+◌, ◌≤◌, min, List, length, Option}
use Rattle.gate_io.specs.Told.{Gains}
use Rattle.live_lines.specs.declared.lingering.Lingering.{Lingering}

-- a second from this moment on, in nanoseconds, to the last moment at most
abbrev pub lasts_to : ℕ → ℕ → ℕ
lasts_to now last = min last (now + 1000000000)

-- Some bytes came, where it is told.
pub record Came (old new : Option (List ℕ)) : Type 0 where
  pub bytes : List ℕ
  pub some : 1 ≤ length bytes
  pub gains : Gains old bytes new

-- Where nothing came of it, it lasts as long as before: silence makes nothing last. Where bytes came, it lasts for a second from now on, and never beyond its last moment.
abbrev pub Lasts : {P : Type 0} → (P → Option (List ℕ)) → ℕ → Lingering P → Lingering P → Type 0
Lasts gave now old new =
    ((gave new.peer ≡ gave old.peer) × (new.until ≡ old.until)) ⊎ (Came (gave old.peer) (gave new.peer) × (new.until ≡ lasts_to now old.last))

-- Of one whose bytes come 5 and 29.5 seconds after it was closed, and which may last for 30.
pub record LastingExamples : Type 0 where
  pub second_more : lasts_to 5000000000 30000000000 ≡ 6000000000
  pub to_its_last : lasts_to 29500000000 30000000000 ≡ 30000000000
