-- Which stages hold bytes of a body, where each callback for bodies and trailers answers Continue: none but the one that is asked.
use Rattle.std.proofs.Common.{◌≡◌, ℕ, zero, suc, true, false, List, [], ◌∷◌, ◌++◌, ap, ◌∙◌, refl, subst}
use Rattle.std.specs.Prelude.{Option, None, Some, slice_get, slice_set, drop}
use Rattle.contexts.specs.declared.parts.Contexts.{Contexts}
use Rattle.filter_chain.specs.declared.stage.Stage.{Stage}
use Rattle.filter_chain.specs.declared.item.Ask.{Ask}
use Rattle.filter_chain.specs.declared.item.AskKind.{AskKind}
use Rattle.filter_chain.specs.declared.item.AskKind.TheVariants as kinds
use Rattle.filter_chain.specs.declared.item.ChainItem.{ChainItem}
use Rattle.filter_chain.specs.declared.item.Held.{Held}
use Rattle.filter_chain.specs.declared.item.Held.TheVariants as held
use Rattle.filter_chain.specs.Items.{item_bytes, holds_bytes}
use Rattle.filter_chain.specs.declared.item.PassOutcome.{PassOutcome}
use Rattle.filter_chain.specs.declared.item.PassOutcome.TheVariants as passed
use Rattle.filter_chain.specs.Chains.{with_more, bytes_at}
use Rattle.filter_chain.specs.Flow.{flow}
use Rattle.law_chain.specs.Acts.{HoldSame}
use Rattle.law_chain.proofs.Holding.{HoldBut}
use Rattle.law_chain.specs.PassThrough.{bare_all, bare_held, bare_at, bare_in}
use Rattle.law_chain.specs.Sound.{AreCalm, CalmBut, CalmFor, CalmWhile, IsClean, AreClean}
use Rattle.law_chain.proofs.Order.{none_both}
use Rattle.law_chain.proofs.Targets.{by_bool, ahead, comes_in, goes_in}

-- ---- one of them

pub calm_at : (ss : List Stage) (k : ℕ) (s : Stage) → slice_get ss k ≡ Some s → AreCalm ss → holds_bytes s.held ≡ false
calm_at [] k s at calm = absurd (cc)
calm_at (x ∷ xs) zero s at calm =
    let here : x ≡ s = (cc) in
    subst (λ (y : Stage). holds_bytes y.held ≡ false) here calm.0
calm_at (x ∷ xs) (suc k) s at calm = calm_at xs k s at calm.1

pub busy_at : (ss : List Stage) (k : ℕ) (s : Stage) → slice_get ss k ≡ Some s → CalmBut k ss → holds_bytes s.held ≡ true
busy_at [] k s at calm = absurd (cc)
busy_at (x ∷ xs) zero s at calm =
    let here : x ≡ s = (cc) in
    subst (λ (y : Stage). holds_bytes y.held ≡ true) here calm.0
busy_at (x ∷ xs) (suc k) s at calm = busy_at xs k s at calm.1

pub calm_beside : (ss : List Stage) (j k : ℕ) (s : Stage) → slice_get ss k ≡ Some s → CalmBut j ss → (k ≡ j → ⊥) → holds_bytes s.held ≡ false
calm_beside [] j k s at calm apart = absurd (cc)
calm_beside (x ∷ xs) zero zero s at calm apart = absurd (apart refl)
calm_beside (x ∷ xs) zero (suc k) s at calm apart = calm_at xs k s at calm.1
calm_beside (x ∷ xs) (suc j) zero s at calm apart =
    let here : x ≡ s = (cc) in
    subst (λ (y : Stage). holds_bytes y.held ≡ false) here calm.0
calm_beside (x ∷ xs) (suc j) (suc k) s at calm apart = calm_beside xs j k s at calm.1 (λ e. apart (ap suc e))

-- ---- an item comes

pub calm_comes : (items : List ChainItem) (ss : List Stage) → AreCalm ss → AreCalm (comes_in items ss).1
calm_comes items [] calm = tt
calm_comes items (s ∷ ss) calm =
    by_bool (λ (r : PassOutcome × List Stage). AreCalm r.1) s.passes (ahead s (comes_in items ss)) (passed.Left [], with_more items s ∷ ss)
    (λ is. (calm.0, calm_comes items ss calm.1)) (λ is. calm)

but_comes : (items : List ChainItem) (j : ℕ) (ss : List Stage) → CalmBut j ss → CalmBut j (comes_in items ss).1
but_comes items j [] calm = calm
but_comes items zero (s ∷ ss) calm =
    by_bool (λ (r : PassOutcome × List Stage). CalmBut zero r.1) s.passes (ahead s (comes_in items ss)) (passed.Left [], with_more items s ∷ ss)
    (λ is. (calm.0, calm_comes items ss calm.1)) (λ is. calm)
but_comes items (suc j) (s ∷ ss) calm =
    by_bool (λ (r : PassOutcome × List Stage). CalmBut (suc j) r.1) s.passes (ahead s (comes_in items ss)) (passed.Left [], with_more items s ∷ ss)
    (λ is. (calm.0, but_comes items j ss calm.1)) (λ is. calm)

for_comes : (items : List ChainItem) (kind : AskKind) (j : ℕ) (ss : List Stage) → CalmFor kind j ss → CalmFor kind j (comes_in items ss).1
for_comes items kinds.Head j ss calm = calm_comes items ss calm
for_comes items kinds.Piece j ss calm = but_comes items j ss calm
for_comes items kinds.Trailers j ss calm = calm_comes items ss calm

pub while_comes : (items : List ChainItem) (due : Option Ask) (ss : List Stage) → CalmWhile due ss → CalmWhile due (comes_in items ss).1
while_comes items None ss calm = calm_comes items ss calm
while_comes items (Some ask) ss calm = for_comes items ask.kind ask.stage ss calm

-- ---- a stage is asked

pub calm_set : (ss : List Stage) (k : ℕ) (t : Stage) → holds_bytes t.held ≡ false → AreCalm ss → AreCalm (slice_set ss k t)
calm_set [] k t is calm = tt
calm_set (x ∷ xs) zero t is calm = (is, calm.1)
calm_set (x ∷ xs) (suc k) t is calm = (calm.0, calm_set xs k t is calm.1)

pub busy_set : (ss : List Stage) (k : ℕ) (s t : Stage) → slice_get ss k ≡ Some s → holds_bytes t.held ≡ true → AreCalm ss → CalmBut k (slice_set ss k t)
busy_set [] k s t at is calm = absurd (cc)
busy_set (x ∷ xs) zero s t at is calm = (is, calm.1)
busy_set (x ∷ xs) (suc k) s t at is calm = (calm.0, busy_set xs k s t at is calm.1)

-- ---- what a stage holds goes on

pub calm_goes : (items : List ChainItem) (ss : List Stage) (k : ℕ) (t : Stage) → holds_bytes t.held ≡ false → AreCalm ss → AreCalm (goes_in k t items ss).1
calm_goes items [] k t is calm = tt
calm_goes items (x ∷ xs) zero t is calm = (is, calm_comes items xs calm.1)
calm_goes items (x ∷ xs) (suc k) t is calm = (calm.0, calm_goes items xs k t is calm.1)

own_goes : (items : List ChainItem) (ss : List Stage) (k : ℕ) (t : Stage) → holds_bytes t.held ≡ false → CalmBut k ss → AreCalm (goes_in k t items ss).1
own_goes items [] k t is calm = tt
own_goes items (x ∷ xs) zero t is calm = (is, calm_comes items xs calm.1)
own_goes items (x ∷ xs) (suc k) t is calm = (calm.0, own_goes items xs k t is calm.1)

but_goes : (items : List ChainItem) (ss : List Stage) (j k : ℕ) (t : Stage) → holds_bytes t.held ≡ false → CalmBut j ss → (k ≡ j → ⊥) → CalmBut j (goes_in k t items ss).1
but_goes items [] j k t is calm apart = absurd calm
but_goes items (x ∷ xs) zero zero t is calm apart = absurd (apart refl)
but_goes items (x ∷ xs) (suc j) zero t is calm apart = (is, but_comes items j xs calm.1)
but_goes items (x ∷ xs) zero (suc k) t is calm apart = (calm.0, calm_goes items xs k t is calm.1)
but_goes items (x ∷ xs) (suc j) (suc k) t is calm apart = (calm.0, but_goes items xs j k t is calm.1 (λ e. apart (ap suc e)))

for_goes : (items : List ChainItem) (ss : List Stage) (kind : AskKind) (j k : ℕ) (t : Stage) → holds_bytes t.held ≡ false → CalmFor kind j ss → (k ≡ j → ⊥)
    → CalmFor kind j (goes_in k t items ss).1
for_goes items ss kinds.Head j k t is calm apart = calm_goes items ss k t is calm
for_goes items ss kinds.Piece j k t is calm apart = but_goes items ss j k t is calm apart
for_goes items ss kinds.Trailers j k t is calm apart = calm_goes items ss k t is calm

pub beside_goes : (items : List ChainItem) (ss : List Stage) (ask : Ask) (k : ℕ) (t : Stage) → holds_bytes t.held ≡ false → CalmWhile (Some ask) ss → (k ≡ ask.stage → ⊥)
    → CalmWhile (Some ask) (goes_in k t items ss).1
beside_goes items ss ask k t is calm apart = for_goes items ss ask.kind ask.stage k t is calm apart

own_for : (items : List ChainItem) (ss : List Stage) (kind : AskKind) (k : ℕ) (t : Stage) → holds_bytes t.held ≡ false → CalmFor kind k ss → AreCalm (goes_in k t items ss).1
own_for items ss kinds.Head k t is calm = calm_goes items ss k t is calm
own_for items ss kinds.Piece k t is calm = own_goes items ss k t is calm
own_for items ss kinds.Trailers k t is calm = calm_goes items ss k t is calm

pub answer_goes : (items : List ChainItem) (ss : List Stage) (ask : Ask) (t : Stage) → holds_bytes t.held ≡ false → CalmWhile (Some ask) ss → AreCalm (goes_in ask.stage t items ss).1
answer_goes items ss ask t is calm = own_for items ss ask.kind ask.stage t is calm

-- ---- a stage that holds no bytes of a body has an empty buffer

pub clean_same : (b c : Contexts) (ss : List Stage) → HoldSame b c ss → AreClean b ss → AreClean c ss
clean_same b c [] same clean = tt
clean_same b c (s ∷ ss) same clean = (λ is. same.0 ∙ clean.0 is, clean_same b c ss same.1 clean.1)

pub clean_behind : (n : ℕ) (b c : Contexts) (ss : List Stage) → HoldSame b c ss → AreClean b (drop n ss) → AreClean c (drop n ss)
clean_behind zero b c ss same clean = clean_same b c ss same clean
clean_behind (suc n) b c [] same clean = tt
clean_behind (suc n) b c (s ∷ ss) same clean = clean_behind n b c ss same.1 clean

pub clean_comes : (n : ℕ) (h : Contexts) (items : List ChainItem) (ss : List Stage) → AreClean h (drop n ss) → AreClean h (drop n (comes_in items ss).1)
clean_comes n h items [] clean = clean
clean_comes zero h items (s ∷ ss) clean =
    by_bool (λ (r : PassOutcome × List Stage). AreClean h r.1) s.passes (ahead s (comes_in items ss)) (passed.Left [], with_more items s ∷ ss)
    (λ is. (clean.0, clean_comes zero h items ss clean.1)) (λ is. clean)
clean_comes (suc n) h items (s ∷ ss) clean =
    by_bool (λ (r : PassOutcome × List Stage). AreClean h (drop (suc n) r.1)) s.passes (ahead s (comes_in items ss)) (passed.Left [], with_more items s ∷ ss)
    (λ is. clean_comes n h items ss clean) (λ is. clean)

pub clean_set : (n : ℕ) (b c : Contexts) (ss : List Stage) (k : ℕ) (s t : Stage) → slice_get ss k ≡ Some s → (IsClean b s → IsClean c t) → HoldBut b c k ss → AreClean b (drop n ss)
    → AreClean c (drop n (slice_set ss k t))
clean_set n b c [] k s t at one same clean = absurd (cc)
clean_set zero b c (x ∷ xs) zero s t at one same clean =
    let here : x ≡ s = (cc) in
    (one (subst (λ (y : Stage). IsClean b y) here clean.0), clean_same b c xs same clean.1)
clean_set zero b c (x ∷ xs) (suc k) s t at one same clean = (λ is. same.0 ∙ clean.0 is, clean_set zero b c xs k s t at one same.1 clean.1)
clean_set (suc n) b c (x ∷ xs) zero s t at one same clean = clean_behind n b c xs same clean
clean_set (suc n) b c (x ∷ xs) (suc k) s t at one same clean = clean_set n b c xs k s t at one same.1 clean

pub clean_goes : (n : ℕ) (b c : Contexts) (items : List ChainItem) (ss : List Stage) (k : ℕ) (s t : Stage) → slice_get ss k ≡ Some s → (IsClean b s → IsClean c t) → HoldBut b c k ss
    → AreClean b (drop n ss) → AreClean c (drop n (goes_in k t items ss).1)
clean_goes n b c items [] k s t at one same clean = absurd (cc)
clean_goes zero b c items (x ∷ xs) zero s t at one same clean =
    let here : x ≡ s = (cc) in
    (one (subst (λ (y : Stage). IsClean b y) here clean.0), clean_comes zero c items xs (clean_same b c xs same clean.1))
clean_goes zero b c items (x ∷ xs) (suc k) s t at one same clean = (λ is. same.0 ∙ clean.0 is, clean_goes zero b c items xs k s t at one same.1 clean.1)
clean_goes (suc n) b c items (x ∷ xs) zero s t at one same clean = clean_comes n c items xs (clean_behind n b c xs same clean)
clean_goes (suc n) b c items (x ∷ xs) (suc k) s t at one same clean = clean_goes n b c items xs k s t at one same.1 clean

-- ---- where all ends have left, nothing is in the chain

holds_none : (h : Held) → bare_held h ≡ [] → holds_bytes h ≡ false
holds_none held.Nothing is = refl
holds_none (held.Head end) is = refl
holds_none (held.Body end) is = absurd (cc)
holds_none (held.Trailers false) is = refl
holds_none (held.Trailers true) is = absurd (cc)

waits_none : (items : List ChainItem) → bare_all items ≡ [] → item_bytes items ≡ []
waits_none [] is = refl
waits_none (i ∷ items) is = absurd (cc)

pub flow_none : (h : Contexts) (ss : List Stage) → bare_in ss ≡ [] → AreClean h ss → flow h ss ≡ []
flow_none h [] is clean = refl
flow_none h (s ∷ ss) is clean =
    let both : (bare_in ss ≡ []) × (bare_at s ≡ []) = none_both (bare_in ss) (bare_at s) is in
    let parts : (bare_held s.held ≡ []) × (bare_all s.waiting ≡ []) = none_both (bare_held s.held) (bare_all s.waiting) both.1 in
    let one : bytes_at h s ≡ [] = clean.0 (holds_none s.held parts.0) in
    let two : item_bytes s.waiting ≡ [] = waits_none s.waiting parts.1 in
    λ i. flow_none h ss both.0 clean.1 i ++ (one i ++ two i)

pub none_busy : (k : ℕ) (ss : List Stage) → bare_in ss ≡ [] → CalmBut k ss → ⊥
none_busy k [] is calm = calm
none_busy zero (s ∷ ss) is calm =
    let both : (bare_in ss ≡ []) × (bare_at s ≡ []) = none_both (bare_in ss) (bare_at s) is in
    let parts : (bare_held s.held ≡ []) × (bare_all s.waiting ≡ []) = none_both (bare_held s.held) (bare_all s.waiting) both.1 in
    let other : holds_bytes s.held ≡ false = holds_none s.held parts.0 in
    cc (calm.0, other)
none_busy (suc k) (s ∷ ss) is calm = none_busy k ss (none_both (bare_in ss) (bare_at s) is).0 calm.1
