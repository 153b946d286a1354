-- How the clock of events goes on.
use Rattle.std.specs.Prelude.{◌≡◌, ℕ, ◌+◌, ◌*◌, ◌/◌, ◌^◌, ◌<◌, ◌≤◌}

-- an hour, in nanoseconds
abbrev pub hour : ℕ
hour = 3600000000000

-- Where so much time has passed after the last moment, the next one is what the system's clock tells, where that went on at half to twice the pace of that time, or is more than an hour further. Else it went on
-- at half that pace, towards a clock that was set back, or at twice that pace, towards one that was set forward. (No moment is beyond the last that a 64-bit count of nanoseconds has, some five hundred years from now.)
pub record GoesOn (last went since now : ℕ) : Type 0 where
  pub rises : last ≤ now
  pub right : last + went / 2 ≤ since → since ≤ last + 2 * went → since < 2 ^ 64 → now ≡ since
  pub leaps : last + 2 * went + hour < since → now ≡ since
  pub slower : since < last + went / 2 → last + went / 2 < 2 ^ 64 → now ≡ last + went / 2
  pub faster : last + 2 * went < since → since ≤ last + 2 * went + hour → last + 2 * went < 2 ^ 64 → now ≡ last + 2 * went

-- Of a clock of which the last moment is 100 seconds, where 8 seconds have passed since.
pub record MomentExamples : Type 0 where
  pub in_step : (now : ℕ) → GoesOn 100000000000 8000000000 108000000000 now → now ≡ 108000000000
  pub set_back : (now : ℕ) → GoesOn 100000000000 8000000000 50000000000 now → now ≡ 104000000000
  pub set_forward : (now : ℕ) → GoesOn 100000000000 8000000000 1000000000000 now → now ≡ 116000000000
  pub a_day_forward : (now : ℕ) → GoesOn 100000000000 8000000000 86500000000000 now → now ≡ 86500000000000
