-- The moments of events.
use Rattle.std.proofs.Common.{◌≡◌, ◌⊎◌, inl, inr, ℕ, ◌≤◌, Option, refl, subst}
use Rattle.std.specs.Prelude.{max, IsSomeAnd}
use Rattle.gate_io.specs.declared.event.What.{What}
use Rattle.live_sockets.specs.Spent.{IsOfLine}
use Rattle.gate_live.specs.Timed.{IsMoment}

-- what had come at the last event
pub timed_at_once : (told : ℕ → Type 0) (last : ℕ) (due : Option ℕ) (what : What) → IsSomeAnd due (λ moment. moment ≤ last) → IsMoment told last due what last
timed_at_once told last due what come = inl (come, refl)

-- the greater of the two moments
pub timed_later : (told : ℕ → Type 0) (last : ℕ) (due : Option ℕ) (what : What) (moment now : ℕ) → told moment → now ≡ max last moment → IsMoment told last due what now
timed_later told last due what moment now was is = inr (inl (moment, was, is))

by_cases : (told : ℕ → Type 0) (last : ℕ) (due : Option ℕ) (what : What) (moment now : ℕ) → told moment → now ≤ max last moment → IsOfLine what ⊎ (now ≡ max last moment) → IsMoment told last due what now
by_cases told last due what moment now was low (inl line) = inr (inr (line, (moment, was, low)))
by_cases told last due what moment now was low (inr is) = inr (inl (moment, was, is))

-- that of an event, where it is of a line or comes at the greater of the two
pub timed_by : (told : ℕ → Type 0) (last : ℕ) (due : Option ℕ) (what : What) (moment most now : ℕ) → told moment → most ≡ max last moment → now ≤ most → IsOfLine what ⊎ (now ≡ most) → IsMoment told last due what now
timed_by told last due what moment most now was is low timed =
    by_cases told last due what moment now was (subst (λ (n : ℕ). now ≤ n) is low) (subst (λ (n : ℕ). IsOfLine what ⊎ (now ≡ n)) is timed)
