-- The system is asked before an event of a line is given.
use Rattle.std.proofs.Common.{◌≡◌, ◌⊎◌, inl, inr, ℕ, ◌+◌, ◌-◌, ◌≤◌, arith}
use Rattle.gate_io.specs.declared.event.What.{What}
use Rattle.gate_io.specs.declared.event.What.TheVariants.{Opened, Bytes, End, Gone, Joined, Refused, Room, Clock, Stop}
use Rattle.live_sockets.specs.Looks.{MayHear, WasAsked, AsksFirst, JustAsked, IsOverdue}
use Rattle.live_sockets.specs.declared.looks.Looks.{Looks}

pub was_asked : (old may new : Looks) → MayHear old may → new.turns ≡ may.turns - 1 → new.asked ≡ may.asked → new.seen ≡ may.seen → WasAsked old new
was_asked old may new hear turns asked seen = record {
  recent = (let h = hear.recent in omega arith);
  few = elim hear.few as (λ h. (new.turns + 1 ≡ old.turns) ⊎ (new.turns ≡ 63)) [ inl same ↦ inl (let some = hear.some in omega arith) | inr full ↦ inr (omega arith) ];
}

-- an event of a line that takes a turn, or one of which nothing is said
pub asks_first : (what : What) (old may new : Looks) → MayHear old may → new.turns ≡ may.turns - 1 → new.asked ≡ may.asked → new.seen ≡ may.seen → AsksFirst what old new
asks_first Clock old may new hear turns asked seen = tt
asks_first Stop old may new hear turns asked seen = tt
asks_first (Opened l) old may new hear turns asked seen = was_asked old may new hear turns asked seen
asks_first (Bytes l side bytes) old may new hear turns asked seen = was_asked old may new hear turns asked seen
asks_first (End l side) old may new hear turns asked seen = was_asked old may new hear turns asked seen
asks_first (Gone l side) old may new hear turns asked seen = was_asked old may new hear turns asked seen
asks_first (Joined l) old may new hear turns asked seen = was_asked old may new hear turns asked seen
asks_first (Refused l) old may new hear turns asked seen = was_asked old may new hear turns asked seen
asks_first (Room l side) old may new hear turns asked seen = was_asked old may new hear turns asked seen

-- it was just asked
pub may_hear : (old new : Looks) (now : ℕ) → JustAsked now new → MayHear old new
may_hear old new now just = record { recent = (let a = just.asked in let s = just.seen in omega arith); some = (let t = just.turns in omega arith); few = inr just.turns }

-- it need not be asked
pub may_go_on : (old new : Looks) → new.turns ≡ old.turns → (IsOverdue new → ⊥) → MayHear old new
may_go_on old new turns not = record {
  recent = omega (arith, λ (h : new.asked + 500000 ≤ new.seen). not (inr h));
  some = omega (arith, λ (h : new.turns ≡ 0). not (inl h));
  few = inl turns;
}
