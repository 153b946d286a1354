-- Moments that clocks told.
use Rattle.std.specs.Prelude.{◌≡◌, ℕ, ◌-◌}
use Rattle.live_sockets.specs.Moments.{GoesOn}
use Rattle.live_sockets.specs.declared.moments.Moments.{Moments}
use Rattle.live_sockets.specs.declared.times.Reading.{Reading}

-- The clocks are read, and the clock of events goes on to a moment by what they tell: by the time that passed since they were read last.
pub record Reads (tells : Reading → Type 0) (old : Moments) (now : ℕ) (new : Moments) : Type 0 where
  pub reading : Reading
  pub told : tells reading
  pub goes_on : GoesOn old.last (reading.passed - old.passed) reading.since now
  pub last : new.last ≡ now
  pub passed : new.passed ≡ reading.passed

-- The clock of events went on to a moment by such a reading.
pub record IsTold (tells : Reading → Type 0) (now : ℕ) : Type 0 where
  pub old : Moments
  pub new : Moments
  pub reads : Reads tells old now new
