-- What is known of a connection of which nothing is told, and of one whose end is told.
use Rattle.std.proofs.Common.{◌≡◌, ℕ, Bool, true, false, not, ◌&&◌, Option, None, Some, refl, sym, ap, subst, ◌∙◌}
use Rattle.std.specs.Prelude.{IsTrue, IfSome, IfNone}
use Rattle.gate_io.specs.declared.event.Side.{Side}
use Rattle.gate_io.specs.declared.event.Side.TheVariants.{Down, Up}
use Rattle.gate_io.specs.declared.event.What.{What}
use Rattle.gate_io.specs.declared.event.What.TheVariants.{Opened, Bytes, End, Gone, Joined, Refused, Room, Clock, Stop}
use Rattle.live_lines.specs.Told.{IsHeardFrom}
use Rattle.live_lines.specs.Turns.{is_same, is_from, is_told_from, IsToldOf, OnEnd, WasRead, EndWasRead, IsSilent}
use Rattle.live_lines.specs.declared.duplex.Heard.{Heard}
use Rattle.live_lines.specs.declared.duplex.Heard.TheVariants as heards
use Rattle.live_lines.specs.declared.line.SocketPair.{SocketPair}

pub told_weaker : (P Q : Heard → Type 0) → ((heard : Heard) → P heard → Q heard) → (told : Option What) → IsToldOf P told → IsToldOf Q told
told_weaker P Q f None h = f heards.Nothing h
told_weaker P Q f (Some (End l s)) h = f heards.End h
told_weaker P Q f (Some (Gone l s)) h = f heards.Lost h
told_weaker P Q f (Some (Bytes l s bytes)) h = tt
told_weaker P Q f (Some (Opened l)) h = tt
told_weaker P Q f (Some (Joined l)) h = tt
told_weaker P Q f (Some (Refused l)) h = tt
told_weaker P Q f (Some (Room l s)) h = tt
told_weaker P Q f (Some Clock) h = tt
told_weaker P Q f (Some Stop) h = tt

-- a read of which nothing is told gave nothing
pub told_silent : {P : Type 0} (ready : P → Bool) (reads : P → Heard → P → Type 0) (asked : Type 0) (old new : P) (told : Option What) → IsToldOf (λ heard. reads old heard new) told → IfNone told (IsSilent ready reads asked old new)
told_silent ready reads asked old new None h = λ there wanted. (old, h)
told_silent ready reads asked old new (Some what) h = tt

-- and one of which the end is told gave it
pub told_end : {P : Type 0} (reads : P → Heard → P → Type 0) (old new : P) (told : Option What) → IsToldOf (λ heard. reads old heard new) told → IfSome told (OnEnd (WasRead reads heards.End new))
told_end reads old new None h = tt
told_end reads old new (Some (End l s)) h = (old, h)
told_end reads old new (Some (Gone l s)) h = tt
told_end reads old new (Some (Bytes l s bytes)) h = tt
told_end reads old new (Some (Opened l)) h = tt
told_end reads old new (Some (Joined l)) h = tt
told_end reads old new (Some (Refused l)) h = tt
told_end reads old new (Some (Room l s)) h = tt
told_end reads old new (Some Clock) h = tt
told_end reads old new (Some Stop) h = tt

-- after a call that keeps what may be there to read
pub silent_behind : {P : Type 0} (ready : P → Bool) (reads : P → Heard → P → Type 0) (asked : Type 0) (a b c : P) (told : Option What) → (IsTrue (ready a) → IsTrue (ready b)) → IfNone told (IsSilent ready reads asked b c) → IfNone told (IsSilent ready reads asked a c)
silent_behind ready reads asked a b c None kept silent = λ there. silent (kept there)
silent_behind ready reads asked a b c (Some what) kept silent = tt

same_self : (side : Side) → is_same side side ≡ true
same_self Down = refl
same_self Up = refl

-- an event of a side is of it
pub from_own : (n : ℕ) (side : Side) (what : What) → IsHeardFrom n side what → is_from side what ≡ true
from_own n side (Bytes l s bytes) from = ap (is_same side) from.1 ∙ same_self side
from_own n side (End l s) from = ap (is_same side) from.1 ∙ same_self side
from_own n side (Gone l s) from = ap (is_same side) from.1 ∙ same_self side
from_own n side (Room l s) from = ap (is_same side) from.1.0 ∙ same_self side
from_own n side (Joined l) from = ap (is_same side) (sym from.1) ∙ same_self side
from_own n side (Refused l) from = ap (is_same side) (sym from.1) ∙ same_self side
from_own n side (Opened l) from = absurd from
from_own n side Clock from = absurd from
from_own n side Stop from = absurd from

-- one of the server is not of the client
pub not_of_client : (n : ℕ) (told : Option What) → IfSome told (IsHeardFrom n Up) → is_told_from Down told ≡ false
not_of_client n None from = refl
not_of_client n (Some (Bytes l s bytes)) from = ap (is_same Down) from.1
not_of_client n (Some (End l s)) from = ap (is_same Down) from.1
not_of_client n (Some (Gone l s)) from = ap (is_same Down) from.1
not_of_client n (Some (Room l s)) from = ap (is_same Down) from.1.0
not_of_client n (Some (Joined l)) from = refl
not_of_client n (Some (Refused l)) from = refl
not_of_client n (Some (Opened l)) from = refl
not_of_client n (Some Clock) from = refl
not_of_client n (Some Stop) from = refl

-- after a turn of the server it is the client's
pub server_was_first : (first told new : Bool) → first ≡ true → new ≡ false → new ≡ (not first && told)
server_was_first first told new is none = none ∙ sym (ap (λ f. not f && told) is)

-- after one of the client it is the server's where the client told something
pub client_was_first : (first told new : Bool) → first ≡ false → new ≡ told → new ≡ (not first && told)
client_was_first first told new is same = same ∙ sym (ap (λ f. not f && told) is)

-- an end that is told of the client was read, where its read gave it
pub end_of_client : {P : Type 0} (reads : P → Heard → P → Type 0) (n : ℕ) (new : SocketPair P) (told : Option What) → IfSome told (IsHeardFrom n Down) → IfSome new.down (λ p. IfSome told (OnEnd (WasRead reads heards.End p))) → IfSome told (EndWasRead reads new)
end_of_client reads n new None from read = tt
end_of_client reads n new (Some (End l s)) from read = subst (λ x. EndWasRead reads new (End l x)) (sym from.1) read
end_of_client reads n new (Some (Gone l s)) from read = tt
end_of_client reads n new (Some (Bytes l s bytes)) from read = tt
end_of_client reads n new (Some (Opened l)) from read = tt
end_of_client reads n new (Some (Joined l)) from read = tt
end_of_client reads n new (Some (Refused l)) from read = tt
end_of_client reads n new (Some (Room l s)) from read = tt
end_of_client reads n new (Some Clock) from read = tt
end_of_client reads n new (Some Stop) from read = tt

-- the same of the server
pub end_of_server : {P : Type 0} (reads : P → Heard → P → Type 0) (n : ℕ) (new : SocketPair P) (told : Option What) → IfSome told (IsHeardFrom n Up) → IfSome new.up (λ up. IfSome told (OnEnd (WasRead reads heards.End up.peer))) → IfSome told (EndWasRead reads new)
end_of_server reads n new None from read = tt
end_of_server reads n new (Some (End l s)) from read = subst (λ x. EndWasRead reads new (End l x)) (sym from.1) read
end_of_server reads n new (Some (Gone l s)) from read = tt
end_of_server reads n new (Some (Bytes l s bytes)) from read = tt
end_of_server reads n new (Some (Opened l)) from read = tt
end_of_server reads n new (Some (Joined l)) from read = tt
end_of_server reads n new (Some (Refused l)) from read = tt
end_of_server reads n new (Some (Room l s)) from read = tt
end_of_server reads n new (Some Clock) from read = tt
end_of_server reads n new (Some Stop) from read = tt
