-- How long a connection lasts that was closed, over several reads.
use Rattle.std.proofs.Common.{◌≡◌, inl, inr, ℕ, ◌+◌, ◌≤◌, List, [], ◌++◌, take, length, Option, refl, sym, ap, subst, ◌∙◌, arith, length-append}
use Rattle.std.proofs.lemmas.List.{length-take-le}
use Rattle.gate_io.specs.Told.{Gains, gains_more, gained_nothing}
use Rattle.live_lines.specs.Heard.{IsHeard, bytes_heard}
use Rattle.live_lines.specs.Lasting.{Lasts, Came, lasts_to}
use Rattle.live_lines.specs.declared.duplex.Heard.{Heard}
use Rattle.live_lines.specs.declared.duplex.Heard.TheVariants.{Bytes, End, Lost, Nothing}
use Rattle.live_lines.specs.declared.lingering.Lingering.{Lingering}

pub lasts_same : {P : Type 0} (gave : P → Option (List ℕ)) (now : ℕ) (a : Lingering P) → Lasts gave now a a
lasts_same gave now a = inl (refl, refl)

came_more : (a b c : Option (List ℕ)) → Came a b → Came b c → Came a c
came_more a b c first second = record {
  bytes = first.bytes ++ second.bytes;
  some = (let one = first.some in let more = length-append first.bytes second.bytes in omega arith);
  gains = gains_more a first.bytes b second.bytes c first.gains second.gains;
}

-- one read, and then another
pub lasts_more : {P : Type 0} (gave : P → Option (List ℕ)) (now : ℕ) (a b c : Lingering P) → b.last ≡ a.last → Lasts gave now a b → Lasts gave now b c → Lasts gave now a c
lasts_more gave now a b c last (inl first) (inl second) = inl (second.0 ∙ first.0, second.1 ∙ first.1)
lasts_more gave now a b c last (inl first) (inr second) = inr (subst (λ o. Came o (gave c.peer)) first.0 second.0, second.1 ∙ ap (lasts_to now) last)
lasts_more gave now a b c last (inr first) (inl second) = inr (subst (λ o. Came (gave a.peer) o) (sym second.0) first.0, second.1 ∙ first.1)
lasts_more gave now a b c last (inr first) (inr second) = inr (came_more (gave a.peer) (gave b.peer) (gave c.peer) first.0 second.0, second.1 ∙ ap (lasts_to now) last)

-- what a read gives: bytes, after which it lasts, or nothing
pub lasts_after : {P : Type 0} (gave : P → Option (List ℕ)) (now n : ℕ) (room : List ℕ) (a b : Lingering P) → 1 ≤ n → n ≤ length room → Gains (gave a.peer) (take n room) (gave b.peer) → b.until ≡ lasts_to now a.last → Lasts gave now a b
lasts_after gave now n room a b some fits gains until = inr (record { bytes = take n room; some = (let long = length-take-le n room fits in omega arith); gains = gains }, until)

pub lasts_silent : {P : Type 0} (gave : P → Option (List ℕ)) (now : ℕ) (a b : Lingering P) → Gains (gave a.peer) [] (gave b.peer) → b.until ≡ a.until → Lasts gave now a b
lasts_silent gave now a b gains until = inl (gained_nothing (gave a.peer) (gave b.peer) gains, until)
