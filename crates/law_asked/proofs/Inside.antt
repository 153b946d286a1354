-- What is in front of a stage, what it holds, and what is after it; where a stage is changed, or items come.
use Rattle.std.proofs.Common.{◌≡◌, ℕ, zero, suc, List, [], ◌∷◌, ◌++◌, ap, ◌∙◌, sym, refl, subst}
use Rattle.std.specs.Prelude.{Some, slice_get, slice_set, drop}
use Rattle.std.proofs.lemmas.List.{append_assoc, append-nil}
use Rattle.filter_chain.specs.declared.stage.Stage.{Stage}
use Rattle.filter_chain.specs.declared.item.ChainItem.{ChainItem}
use Rattle.filter_chain.specs.declared.item.Held.TheVariants as held
use Rattle.filter_chain.specs.declared.item.PassOutcome.{PassOutcome}
use Rattle.filter_chain.specs.declared.item.PassOutcome.TheVariants as passed
use Rattle.filter_chain.specs.Chains.{with_more}
use Rattle.filter_chain.specs.Flow.{left_in}
use Rattle.law_chain.specs.PassThrough.{bare, bare_all, bare_held, bare_at, bare_in, Thinner}
use Rattle.law_chain.specs.Sound.{IsEmpty, AreOpen, IsCut}
use Rattle.law_chain.proofs.Targets.{by_bool, ahead, comes_in, goes_in}
use Rattle.law_chain.proofs.Order.{ends_more, comes_ends}
use Rattle.law_asked.specs.Asked.{where_same, Gathered, none}
use Rattle.law_asked.proofs.Gathering.{gather_here, gather_same, gather_both, gather_then, of_thin, gather_at, gather_front}

-- what is to be asked of the stage at a place, from there to the entry
abbrev pub fore : ℕ → List Stage → List ChainItem
fore k [] = []
fore zero (s ∷ ss) = bare_all s.waiting
fore (suc k) (s ∷ ss) = fore k ss ++ bare_at s

-- what it holds
abbrev pub held_in : ℕ → List Stage → List ChainItem
held_in k [] = []
held_in zero (s ∷ ss) = bare_held s.held
held_in (suc k) (s ∷ ss) = held_in k ss

-- ---- items come

more_ends : (items : List ChainItem) (s : Stage) → bare_at (with_more items s) ≡ bare_at s ++ bare_all items
more_ends items s = ap (λ (l : List ChainItem). bare_held s.held ++ l) (ends_more s.waiting items) ∙ sym (append_assoc (bare_held s.held) (bare_all s.waiting) (bare_all items))

empty_bare : (s : Stage) → IsEmpty s → bare_at s ≡ []
empty_bare s empty = λ i. bare_held (empty.holding i) ++ bare_all (empty.waiting i)

-- they do not come after a stage that was not let through
pub stops_at : (k : ℕ) (items : List ChainItem) (ss : List Stage) → IsCut (suc k) ss → ((comes_in items ss).0 ≡ passed.Left []) × (drop (suc k) (comes_in items ss).1 ≡ drop (suc k) ss)
stops_at k items [] cut = absurd cut
stops_at zero items (s ∷ ss) cut =
    by_bool (λ (r : PassOutcome × List Stage). (r.0 ≡ passed.Left []) × (drop 1 r.1 ≡ ss)) s.passes (ahead s (comes_in items ss)) (passed.Left [], with_more items s ∷ ss)
    (λ is. absurd (cc (is, cut))) (λ is. (refl, refl))
stops_at (suc k) items (s ∷ ss) cut =
    by_bool (λ (r : PassOutcome × List Stage). (r.0 ≡ passed.Left []) × (drop (suc (suc k)) r.1 ≡ drop (suc k) ss)) s.passes (ahead s (comes_in items ss)) (passed.Left [], with_more items s ∷ ss)
    (λ is. stops_at k items ss cut) (λ is. (refl, refl))

pub holds_come : (k : ℕ) (items : List ChainItem) (ss : List Stage) → held_in k (comes_in items ss).1 ≡ held_in k ss
holds_come k items [] = refl
holds_come zero items (s ∷ ss) =
    by_bool (λ (r : PassOutcome × List Stage). held_in zero r.1 ≡ bare_held s.held) s.passes (ahead s (comes_in items ss)) (passed.Left [], with_more items s ∷ ss) (λ is. refl) (λ is. refl)
holds_come (suc k) items (s ∷ ss) =
    by_bool (λ (r : PassOutcome × List Stage). held_in (suc k) r.1 ≡ held_in k ss) s.passes (ahead s (comes_in items ss)) (passed.Left [], with_more items s ∷ ss)
    (λ is. holds_come k items ss) (λ is. refl)

pub fore_comes : (k : ℕ) (items : List ChainItem) (ss : List Stage) → AreOpen ss → IsCut (suc k) ss → Gathered (fore k ss ++ bare_all items) (fore k (comes_in items ss).1)
fore_comes k items [] all cut = absurd cut
fore_comes zero items (s ∷ ss) all cut =
    by_bool (λ (r : PassOutcome × List Stage). Gathered (bare_all s.waiting ++ bare_all items) (fore zero r.1)) s.passes (ahead s (comes_in items ss)) (passed.Left [], with_more items s ∷ ss)
    (λ is. absurd (cc (is, cut))) (λ is. gather_same (bare_all s.waiting ++ bare_all items) (bare_all (s.waiting ++ items)) (sym (ends_more s.waiting items)))
fore_comes (suc k) items (s ∷ ss) all cut =
    by_bool (λ (r : PassOutcome × List Stage). Gathered ((fore k ss ++ bare_at s) ++ bare_all items) (fore (suc k) r.1)) s.passes (ahead s (comes_in items ss)) (passed.Left [], with_more items s ∷ ss)
    (λ is.
    let nothing : bare_at s ≡ [] = empty_bare s (all.0 is) in
    gather_at ((fore k ss ++ bare_at s) ++ bare_all items) (fore k ss ++ bare_all items) (fore k (comes_in items ss).1 ++ bare_at s) (fore k (comes_in items ss).1)
    (ap (λ (l : List ChainItem). (fore k ss ++ l) ++ bare_all items) nothing ∙ ap (λ (l : List ChainItem). l ++ bare_all items) (append-nil (fore k ss)))
    (ap (λ (l : List ChainItem). fore k (comes_in items ss).1 ++ l) nothing ∙ append-nil (fore k (comes_in items ss).1))
    (fore_comes k items ss all.1 cut))
    (λ is.
    gather_same ((fore k ss ++ bare_at s) ++ bare_all items) (fore k ss ++ bare_at (with_more items s))
    (append_assoc (fore k ss) (bare_at s) (bare_all items) ∙ ap (λ (l : List ChainItem). fore k ss ++ l) (sym (more_ends items s))))

-- ---- the stage at a place lets items go

pub in_goes : (items : List ChainItem) (ss : List Stage) (j : ℕ) (s t : Stage) → slice_get ss j ≡ Some s → AreOpen ss → Thinner (bare_at s) (bare_all items ++ bare_at t)
    → Gathered (bare_in ss) (bare_all (left_in (goes_in j t items ss).0) ++ bare_in (goes_in j t items ss).1)
in_goes items [] j s t at all thin = absurd (cc)
in_goes items (x ∷ xs) zero s t at all thin =
    let here : x ≡ s = (cc) in
    let r : PassOutcome × List Stage = comes_in items xs in
    let first : Gathered (bare_at x) (bare_all items ++ bare_at t) = subst (λ (y : Stage). Gathered (bare_at y) (bare_all items ++ bare_at t)) (sym here) (of_thin thin) in
    gather_then
    (gather_at (bare_in xs ++ bare_at x) (bare_in xs ++ bare_at x) ((bare_in xs ++ bare_all items) ++ bare_at t) (bare_in xs ++ (bare_all items ++ bare_at t)) refl
    (append_assoc (bare_in xs) (bare_all items) (bare_at t)) (gather_both (gather_here (bare_in xs)) first))
    (gather_front (bare_in xs ++ bare_all items) (bare_all (left_in r.0)) (bare_in r.1) (bare_at t) (of_thin (comes_ends items xs all.1)))
in_goes items (x ∷ xs) (suc j) s t at all thin =
    let r : PassOutcome × List Stage = goes_in j t items xs in
    gather_front (bare_in xs) (bare_all (left_in r.0)) (bare_in r.1) (bare_at x) (in_goes items xs j s t at all.1 thin)

pub fore_goes : (k : ℕ) (items : List ChainItem) (ss : List Stage) (j : ℕ) (s t : Stage) → slice_get ss j ≡ Some s → AreOpen ss → IsCut (suc k) ss → (j ≡ k → t.waiting ≡ s.waiting)
    → Thinner (bare_at s) (bare_all items ++ bare_at t) → Gathered (fore k ss) (fore k (goes_in j t items ss).1)
fore_goes k items [] j s t at all cut waits thin = absurd cut
fore_goes zero items (x ∷ xs) zero s t at all cut waits thin =
    let here : x ≡ s = (cc) in
    gather_same (bare_all x.waiting) (bare_all t.waiting) (ap (λ (y : Stage). bare_all y.waiting) here ∙ ap bare_all (sym (waits refl)))
fore_goes zero items (x ∷ xs) (suc j) s t at all cut waits thin = gather_here (bare_all x.waiting)
fore_goes (suc k) items (x ∷ xs) zero s t at all cut waits thin =
    let here : x ≡ s = (cc) in
    let first : Gathered (bare_at x) (bare_all items ++ bare_at t) = subst (λ (y : Stage). Gathered (bare_at y) (bare_all items ++ bare_at t)) (sym here) (of_thin thin) in
    gather_then
    (gather_at (fore k xs ++ bare_at x) (fore k xs ++ bare_at x) ((fore k xs ++ bare_all items) ++ bare_at t) (fore k xs ++ (bare_all items ++ bare_at t)) refl
    (append_assoc (fore k xs) (bare_all items) (bare_at t)) (gather_both (gather_here (fore k xs)) first))
    (gather_both (fore_comes k items xs all.1 cut) (gather_here (bare_at t)))
fore_goes (suc k) items (x ∷ xs) (suc j) s t at all cut waits thin =
    gather_both (fore_goes k items xs j s t at all.1 cut (λ is. waits (ap suc is)) thin) (gather_here (bare_at x))

pub holds_go : (k : ℕ) (items : List ChainItem) (ss : List Stage) (j : ℕ) (s t : Stage) → slice_get ss j ≡ Some s → t.held ≡ held.Nothing
    → held_in k ss ≡ where_same k j (bare_held s.held) ++ held_in k (goes_in j t items ss).1
holds_go k items [] j s t at nothing = absurd (cc)
holds_go zero items (x ∷ xs) zero s t at nothing =
    let here : x ≡ s = (cc) in
    ap (λ (y : Stage). bare_held y.held) here ∙ (sym (append-nil (bare_held s.held)) ∙ λ i. bare_held s.held ++ bare_held (sym nothing i))
holds_go zero items (x ∷ xs) (suc j) s t at nothing = refl
holds_go (suc k) items (x ∷ xs) zero s t at nothing = sym (holds_come k items xs)
holds_go (suc k) items (x ∷ xs) (suc j) s t at nothing = holds_go k items xs j s t at nothing

-- ---- the stage at a place is asked

-- it was asked of the first item that waited, and holds it with what it held
pub record Asks (told : ChainItem) (s t : Stage) : Type 0 where
  pub item : ChainItem
  pub later : List ChainItem
  pub waits : s.waiting ≡ item ∷ later
  pub is : bare item ≡ told
  pub rest : t.waiting ≡ later
  pub holds : Gathered (bare_held s.held ++ told ∷ []) (bare_held t.held)
  pub passes : t.passes ≡ s.passes

waited : {told : ChainItem} {s t : Stage} → Asks told s t → bare_all s.waiting ≡ told ∷ bare_all t.waiting
waited {told} {s} {t} asks = ap bare_all asks.waits ∙ (ap (λ (i : ChainItem). i ∷ bare_all asks.later) asks.is ∙ ap (λ (l : List ChainItem). told ∷ bare_all l) (sym asks.rest))

at_asks : {told : ChainItem} {s t : Stage} → Asks told s t → Gathered (bare_at s) (bare_at t)
at_asks {told} {s} {t} asks =
    gather_at (bare_held s.held ++ bare_all s.waiting) ((bare_held s.held ++ told ∷ []) ++ bare_all t.waiting) (bare_at t) (bare_held t.held ++ bare_all t.waiting)
    (ap (λ (l : List ChainItem). bare_held s.held ++ l) (waited asks) ∙ sym (append_assoc (bare_held s.held) (told ∷ []) (bare_all t.waiting))) refl
    (gather_both asks.holds (gather_here (bare_all t.waiting)))

pub in_asks : {told : ChainItem} {s t : Stage} → Asks told s t → (ss : List Stage) (j : ℕ) → slice_get ss j ≡ Some s → Gathered (bare_in ss) (bare_in (slice_set ss j t))
in_asks asks [] j at = none
in_asks {told} {s} {t} asks (x ∷ xs) zero at =
    let here : x ≡ s = (cc) in
    gather_both (gather_here (bare_in xs)) (subst (λ (y : Stage). Gathered (bare_at y) (bare_at t)) (sym here) (at_asks asks))
in_asks asks (x ∷ xs) (suc j) at = gather_both (in_asks asks xs j at) (gather_here (bare_at x))

pub fore_asks : {told : ChainItem} {s t : Stage} → Asks told s t → (k : ℕ) (ss : List Stage) (j : ℕ) → slice_get ss j ≡ Some s
    → Gathered (fore k ss) (where_same k j (told ∷ []) ++ fore k (slice_set ss j t))
fore_asks asks k [] j at = absurd (cc)
fore_asks {told} {s} {t} asks zero (x ∷ xs) zero at =
    let here : x ≡ s = (cc) in
    gather_same (bare_all x.waiting) (told ∷ bare_all t.waiting) (ap (λ (y : Stage). bare_all y.waiting) here ∙ waited asks)
fore_asks asks zero (x ∷ xs) (suc j) at = gather_here (bare_all x.waiting)
fore_asks {told} {s} {t} asks (suc k) (x ∷ xs) zero at =
    let here : x ≡ s = (cc) in
    gather_both (gather_here (fore k xs)) (subst (λ (y : Stage). Gathered (bare_at y) (bare_at t)) (sym here) (at_asks asks))
fore_asks {told} {s} {t} asks (suc k) (x ∷ xs) (suc j) at =
    gather_front (fore k xs) (where_same k j (told ∷ [])) (fore k (slice_set xs j t)) (bare_at x) (fore_asks asks k xs j at)

pub holds_asks : {told : ChainItem} {s t : Stage} → Asks told s t → (k : ℕ) (ss : List Stage) (j : ℕ) → slice_get ss j ≡ Some s
    → Gathered (held_in k ss ++ where_same k j (told ∷ [])) (held_in k (slice_set ss j t))
holds_asks asks k [] j at = absurd (cc)
holds_asks {told} {s} {t} asks zero (x ∷ xs) zero at =
    let here : x ≡ s = (cc) in
    subst (λ (y : Stage). Gathered (bare_held y.held ++ told ∷ []) (bare_held t.held)) (sym here) asks.holds
holds_asks asks zero (x ∷ xs) (suc j) at = gather_same (bare_held x.held ++ []) (bare_held x.held) (append-nil (bare_held x.held))
holds_asks asks (suc k) (x ∷ xs) zero at = gather_same (held_in k xs ++ []) (held_in k xs) (append-nil (held_in k xs))
holds_asks asks (suc k) (x ∷ xs) (suc j) at = holds_asks asks k xs j at
