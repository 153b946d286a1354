-- What a world may give.
use Rattle.std.specs.Prelude.{◌≡◌, ℕ, Bool, false, IsTrue}
use Rattle.gate_io.specs.declared.event.Side.TheVariants.{Down, Up}
use Rattle.gate_io.specs.declared.event.What.{What}
use Rattle.gate_io.specs.declared.event.What.TheVariants.{Opened, Bytes, End, Gone, Joined, Refused, Room, Clock, Stop}
use Rattle.gate_io.specs.declared.passed.Wants.{Wants}
use Rattle.gate_io.specs.Events.{IsSized, Obeys}

-- bytes come only from where they are wanted, in pieces of 1 to 16,384
abbrev pub IsAllowed : Wants → What → Type 0
IsAllowed wants what = IsSized what × Obeys wants what

-- no bytes of a client come while enough waits for the server
abbrev pub HoldsBack : Bool → What → Type 0
HoldsBack full (Opened line) = Unit {0}
HoldsBack full (Bytes line Down bytes) = full ≡ false
HoldsBack full (Bytes line Up bytes) = Unit {0}
HoldsBack full (End line side) = Unit {0}
HoldsBack full (Gone line side) = Unit {0}
HoldsBack full (Joined line) = Unit {0}
HoldsBack full (Refused line) = Unit {0}
HoldsBack full (Room line side) = Unit {0}
HoldsBack full Clock = Unit {0}
HoldsBack full Stop = Unit {0}

-- what follows from a promise that is not made
pub no_promise : {n : ℕ} → IsTrue false → n ≡ 0
no_promise h = absurd (cc h)
