-- When the system is to be asked what is ready.
use Rattle.std.specs.Prelude.{◌≡◌, ◌⊎◌, ℕ, ◌+◌, ◌<◌, ◌≤◌}
use Rattle.gate_io.specs.declared.event.What.{What}
use Rattle.gate_io.specs.declared.event.What.TheVariants.{Opened, Bytes, End, Gone, Joined, Refused, Room, Clock, Stop}
use Rattle.live_sockets.specs.declared.looks.Looks.{Looks}

-- half a millisecond, in nanoseconds
abbrev pub look_after : ℕ
look_after = 500000

-- 64 events of lines were given since it was asked last, or half a millisecond has gone since
abbrev pub IsOverdue : Looks → Type 0
IsOverdue looks = (looks.turns ≡ 0) ⊎ (looks.asked + look_after ≤ looks.seen)

-- it was asked at this moment, and 64 events of lines may come
pub record JustAsked (now : ℕ) (looks : Looks) : Type 0 where
  pub turns : looks.turns ≡ 64
  pub asked : looks.asked ≡ now
  pub seen : looks.seen ≡ now

-- Some event of a line may be heard: less than half a millisecond has gone by the clock since the system was asked, and there is a turn left of those before, or it was asked since.
pub record MayHear (old new : Looks) : Type 0 where
  pub recent : new.seen < new.asked + look_after
  pub some : 1 ≤ new.turns
  pub few : (new.turns ≡ old.turns) ⊎ (new.turns ≡ 64)

-- An event of a line was given less than half a millisecond, by the clock as it was read in that call, after the last question to the system. It took one of the turns that there were before, or the system was
-- asked in that call, and 63 are left.
pub record WasAsked (old new : Looks) : Type 0 where
  pub recent : new.seen < new.asked + look_after
  pub few : (new.turns + 1 ≡ old.turns) ⊎ (new.turns ≡ 63)

-- of Clock and Stop nothing is said
abbrev pub AsksFirst : What → Looks → Looks → Type 0
AsksFirst Clock old new = Unit {0}
AsksFirst Stop old new = Unit {0}
AsksFirst (Opened line) old new = WasAsked old new
AsksFirst (Bytes line side bytes) old new = WasAsked old new
AsksFirst (End line side) old new = WasAsked old new
AsksFirst (Gone line side) old new = WasAsked old new
AsksFirst (Joined line) old new = WasAsked old new
AsksFirst (Refused line) old new = WasAsked old new
AsksFirst (Room line side) old new = WasAsked old new
