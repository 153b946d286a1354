-- The events that a world in memory gives are those that it was made of, and then Stop.
use Rattle.std.specs.Prelude.{◌≡◌, ℕ, zero, suc, ◌<◌, List, [], ◌∷◌, ◌++◌, length, slice_get, slice_index_or, Some, refl}
use Rattle.std.proofs.Common.{◌∙◌, ap, arith}
use Rattle.gate_io.specs.declared.event.Event.{Event}
use Rattle.gate_io.specs.Given.{KeepTo}
use Rattle.gate_io.specs.MemoryWorld.{MemoryWorld, stop_at, end_of, events_of, nature_of}
use Rattle.gate_io.specs.Nature.{Nature}
use Rattle.gate_io.specs.Passing.{happened}

-- the first n of these events, with Stop at a moment behind them for ever
abbrev pub first_of : List Event → ℕ → ℕ → List Event
first_of events now zero = []
first_of [] now (suc n) = stop_at now ∷ first_of [] now n
first_of (event ∷ events) now (suc n) = event ∷ first_of events now n

agree : (past left events : List Event) (end now : ℕ) → ((k : ℕ) → Some (slice_index_or (past ++ left) k (stop_at end)) ≡ Some (slice_index_or events k (stop_at now)))
    → past ≡ first_of events now (length past)
agree [] left events end now same = refl
agree (e ∷ past) left [] end now same =
    let head : e ≡ stop_at now = cc (same 0) in
    λ i. head i ∷ agree past left [] end now (λ k. same (suc k)) i
agree (e ∷ past) left (x ∷ events) end now same =
    let head : e ≡ x = cc (same 0) in
    λ i. head i ∷ agree past left events end now (λ k. same (suc k)) i

-- A world, and what calls on it make of it: what it gave by then are the first of its events. Of a world that gave
-- nothing so far, whatever it took, these are the events that are left.
pub record GivesItsEvents : Type 0 where
  pub ever : (w v : MemoryWorld) → nature_of v ≡ nature_of w → happened v.trace ≡ first_of (events_of w) (end_of (events_of w)) (length (happened v.trace))
  pub fresh : (w v : MemoryWorld) → happened w.trace ≡ [] → nature_of v ≡ nature_of w → happened v.trace ≡ first_of w.left (end_of w.left) (length (happened v.trace))

gave : (w v : MemoryWorld) → nature_of v ≡ nature_of w → happened v.trace ≡ first_of (events_of w) (end_of (events_of w)) (length (happened v.trace))
gave w v same = agree (happened v.trace) v.left (events_of w) (end_of (events_of v)) (end_of (events_of w)) (λ k. ap (λ (n : Nature). n.script k) same)

pub gives_its_events : GivesItsEvents
gives_its_events = record {
  ever = gave;
  fresh = λ w v none same. gave w v same ∙ ap (λ (es : List Event). first_of (es ++ w.left) (end_of (es ++ w.left)) (length (happened v.trace))) none;
}

given_at : (past left : List Event) (other : Event) (k : ℕ) → k < length past → slice_get past k ≡ Some (slice_index_or (past ++ left) k other)
given_at [] left other k low = absurd (omega (arith, low))
given_at (e ∷ past) left other zero low = refl
given_at (e ∷ past) left other (suc k) low = given_at past left other k (omega (arith, low))

-- each event that a world in memory gave stands at its place of the script
pub keeps_to : (w : MemoryWorld) → KeepTo (nature_of w).script (Some w.trace)
keeps_to w = λ k low. given_at (happened w.trace) w.left (stop_at (end_of (events_of w))) k low
