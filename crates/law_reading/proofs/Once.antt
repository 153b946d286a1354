-- Where a number is opened once, its line was opened there.
use Rattle.std.proofs.Common.{◌≡◌, ℕ, List, [], ◌∷◌, ◌++◌, refl, ap, ◌∙◌, sym, subst}
use Rattle.gate_io.specs.declared.event.Side.TheVariants.{Down}
use Rattle.gate_io.specs.declared.event.What.{What}
use Rattle.gate_io.specs.declared.event.What.TheVariants.{Opened}
use Rattle.std.specs.Prelude.{None}
use Rattle.law_reading.specs.Laws.{HasRead, NumbersReadOnce, NotOpened}
use Rattle.law_reading.specs.Spelled.{IsReadOf}
use Rattle.law_reading.specs.Turns.{events_of}
use Rattle.law_reading.proofs.Since.{lines_read, happened_join}

not_there : (n : ℕ) (a b : List What) → NotOpened n (a ++ Opened n ∷ b) → ⊥
not_there n [] b none = none.0 refl
not_there n (w ∷ a) b none = not_there n a b none.1

-- an opening stands behind none that is not, and before none
at_once : (n : ℕ) (a b c d : List What) → a ++ Opened n ∷ b ≡ c ++ Opened n ∷ d → NotOpened n c → NotOpened n d → b ≡ d
at_once n [] b [] d same none later = cc
at_once n [] b (w ∷ c) d same none later = let e : Opened n ≡ w = cc in absurd (none.0 (sym e))
at_once n (w ∷ a) b [] d same none later = let e : a ++ Opened n ∷ b ≡ d = cc in absurd (not_there n a b (subst (NotOpened n) (sym e) later))
at_once n (w ∷ a) b (v ∷ c) d same none later = let e : a ++ Opened n ∷ b ≡ c ++ Opened n ∷ d = cc in at_once n a b c d e none.1 later

pub numbers_read_once : (H : Type 0) → NumbersReadOnce H
numbers_read_once H calling plan config seed host turns to n l before after turned whole there splits none later =
    let h : HasRead n turns l.requests = lines_read H calling plan config seed host turns to n l turned whole there in
    let ws : events_of turns ≡ events_of h.earlier ++ Opened n ∷ events_of h.later
    = ap events_of h.is ∙ (happened_join n h.earlier (h.opening ∷ h.later) ∙ ap (λ (w : What). events_of h.earlier ++ w ∷ events_of h.later) h.opened) in
    subst (λ (ws : List What). IsReadOf None n Down ws l.requests) (at_once n (events_of h.earlier) (events_of h.later) before after (sym ws ∙ splits) none later) h.reads
