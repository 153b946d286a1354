-- Moments that clocks told.
use Rattle.std.proofs.Common.{◌≡◌, ℕ, ◌-◌, sym, subst}
use Rattle.live_sockets.specs.Moments.{GoesOn}
use Rattle.live_sockets.specs.Times.{IsTold, Reads}
use Rattle.live_sockets.specs.declared.moments.Moments.{Moments}
use Rattle.live_sockets.specs.declared.times.Reading.{Reading}

-- the clock of events goes on by a reading
pub reads_on : (tells : Reading → Type 0) (old : Moments) (now : ℕ) (new : Moments) (reading : Reading) (went : ℕ) → tells reading → went ≡ reading.passed - old.passed → GoesOn old.last went reading.since now → new.last ≡ now → new.passed ≡ reading.passed
    → Reads tells old now new
reads_on tells old now new reading went told is goes_on last passed =
    record { reading = reading; told = told; goes_on = subst (λ (n : ℕ). GoesOn old.last n reading.since now) is goes_on; last = last; passed = passed }

-- a moment that was read
pub told_now : (tells : Reading → Type 0) (old new : Moments) (now seen : ℕ) → Reads tells old now new → seen ≡ now → IsTold tells seen
told_now tells old new now seen reads is = subst (λ (n : ℕ). IsTold tells n) (sym is) (record { old = old; new = new; reads = reads })

-- the same moment
pub told_same : (tells : Reading → Type 0) (now seen : ℕ) → IsTold tells now → seen ≡ now → IsTold tells seen
told_same tells now seen told is = subst (λ (n : ℕ). IsTold tells n) (sym is) told
