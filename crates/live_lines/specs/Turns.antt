-- Which side of a line is heard first, and what is known of one of which nothing is told.
use Rattle.std.specs.Prelude.{◌≡◌, [], Bool, true, false, Option, None, Some, IsTrue, IfSome, Contains}
use Rattle.gate_io.specs.Events.{wanted}
use Rattle.gate_io.specs.declared.event.Side.{Side}
use Rattle.gate_io.specs.declared.event.Side.TheVariants.{Down, Up}
use Rattle.gate_io.specs.declared.passed.Wants.{Wants}
use Rattle.gate_io.specs.declared.event.What.{What}
use Rattle.gate_io.specs.declared.event.What.TheVariants.{Opened, Bytes, End, Gone, Joined, Refused, Room, Clock, Stop}
use Rattle.live_lines.specs.declared.duplex.Heard.{Heard}
use Rattle.live_lines.specs.declared.duplex.Heard.TheVariants as heards
use Rattle.live_lines.specs.declared.line.SocketPair.{SocketPair}
use Rattle.live_lines.specs.declared.upstream.Upstream.{Upstream}

-- whether two sides are the same
abbrev pub is_same : Side → Side → Bool
is_same Down Down = true
is_same Down Up = false
is_same Up Down = false
is_same Up Up = true

-- whether an event is of the connection of this side
abbrev pub is_from : Side → What → Bool
is_from asked (Bytes line side bytes) = is_same asked side
is_from asked (End line side) = is_same asked side
is_from asked (Gone line side) = is_same asked side
is_from asked (Room line side) = is_same asked side
is_from asked (Joined line) = is_same asked Up
is_from asked (Refused line) = is_same asked Up
is_from asked (Opened line) = false
is_from asked Clock = false
is_from asked Stop = false

-- whether there is an event, and it is of that connection
abbrev pub is_told_from : Side → Option What → Bool
is_told_from asked None = false
is_told_from asked (Some what) = is_from asked what

-- what a read gave where this is told of it
abbrev pub IsToldOf : (Heard → Type 0) → Option What → Type 0
IsToldOf gave None = gave heards.Nothing
IsToldOf gave (Some (End line side)) = gave heards.End
IsToldOf gave (Some (Gone line side)) = gave heards.Lost
IsToldOf gave (Some (Bytes line side bytes)) = Unit {0}
IsToldOf gave (Some (Opened line)) = Unit {0}
IsToldOf gave (Some (Joined line)) = Unit {0}
IsToldOf gave (Some (Refused line)) = Unit {0}
IsToldOf gave (Some (Room line side)) = Unit {0}
IsToldOf gave (Some Clock) = Unit {0}
IsToldOf gave (Some Stop) = Unit {0}

-- this holds where the event is an end
abbrev pub OnEnd : Type 0 → What → Type 0
OnEnd why (End line side) = why
OnEnd why (Bytes line side bytes) = Unit {0}
OnEnd why (Gone line side) = Unit {0}
OnEnd why (Opened line) = Unit {0}
OnEnd why (Joined line) = Unit {0}
OnEnd why (Refused line) = Unit {0}
OnEnd why (Room line side) = Unit {0}
OnEnd why Clock = Unit {0}
OnEnd why Stop = Unit {0}

-- a read gave this and left the connection so
abbrev pub WasRead : {P : Type 0} → (P → Heard → P → Type 0) → Heard → P → Type 0
WasRead {P} reads heard new = (at : P) × reads at heard new

-- an end is told of a connection only after a read that gave it
abbrev pub EndWasRead : {P : Type 0} → (P → Heard → P → Type 0) → SocketPair P → What → Type 0
EndWasRead reads new (End line Down) = IfSome new.down (λ peer. WasRead reads heards.End peer)
EndWasRead reads new (End line Up) = IfSome new.up (λ up. WasRead reads heards.End up.peer)
EndWasRead reads new (Bytes line side bytes) = Unit {0}
EndWasRead reads new (Gone line side) = Unit {0}
EndWasRead reads new (Opened line) = Unit {0}
EndWasRead reads new (Joined line) = Unit {0}
EndWasRead reads new (Refused line) = Unit {0}
EndWasRead reads new (Room line side) = Unit {0}
EndWasRead reads new Clock = Unit {0}
EndWasRead reads new Stop = Unit {0}

-- nothing came of a connection: where something could be there to read, and it was to be read, a read of it gave nothing
abbrev pub IsSilent : {P : Type 0} → (P → Bool) → (P → Heard → P → Type 0) → Type 0 → P → P → Type 0
IsSilent ready reads asked old new = IsTrue (ready old) → asked → WasRead reads heards.Nothing new

-- the same of a client, where it was there and is
abbrev pub ClientIsSilent : {P : Type 0} → (P → Bool) → (P → Heard → P → Type 0) → Type 0 → Option P → Option P → Type 0
ClientIsSilent ready reads asked None new = Unit {0}
ClientIsSilent ready reads asked (Some p) None = Unit {0}
ClientIsSilent ready reads asked (Some p) (Some q) = IsSilent ready reads asked p q

-- and of a server
abbrev pub ServerIsSilent : {P : Type 0} → (P → Bool) → (P → Heard → P → Type 0) → Type 0 → Option (Upstream P) → Option (Upstream P) → Type 0
ServerIsSilent ready reads asked None new = Unit {0}
ServerIsSilent ready reads asked (Some p) None = Unit {0}
ServerIsSilent ready reads asked (Some p) (Some q) = IsSilent ready reads asked p.peer q.peer

-- nothing is to be told of a client: nothing of it could be there to read, no call on it failed, and no room came again for it
abbrev pub ClientIsStill : {P : Type 0} → (P → Bool) → (P → Bool) → (P → Bool) → Option P → Type 0
ClientIsStill ready broken again client = IfSome client (λ peer. (ready peer ≡ false) × (broken peer ≡ false) × (again peer ≡ false))

-- nothing waits for a server, no call on its connection failed, and where something of it could be there to read, that is not asked for
abbrev pub ServerIsStill : {P : Type 0} → (P → Bool) → (P → Bool) → Type 0 → Option (Upstream P) → Type 0
ServerIsStill {P} ready broken asked None = Unit {0}
ServerIsStill {P} ready broken asked (Some up) = (up.waiting ≡ []) × (broken up.peer ≡ false) × (IsTrue (ready up.peer) → asked → ⊥)

-- nothing is to be told of a line: it has no refusal to tell, and its client and its server are still
abbrev pub LineIsStill : {P : Type 0} → (ready broken again : P → Bool) → Wants → SocketPair P → Type 0
LineIsStill ready broken again wants line =
    (line.refused ≡ false) × ClientIsStill ready broken again line.down × ServerIsStill ready broken (Contains (wanted wants Up) line.number) line.up
