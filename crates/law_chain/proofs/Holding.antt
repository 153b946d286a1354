-- What asking, letting go and returning make of what stages hold among the contexts.
use Rattle.std.proofs.Common.{◌≡◌, ◌<◌, ◌≤◌, ℕ, zero, suc, Bool, true, false, List, [], ◌∷◌, ◌++◌, length, ◌==◌, ap, ◌∙◌, sym, refl, subst, inl, inr, ⊎_elim, arith}
use Rattle.std.specs.Prelude.{Option, None, Some, slice_get, slice_set, slice_index_or, drop, ◌⊎◌}
use Rattle.std.specs.Option.{option_map}
use Rattle.std.proofs.Math.ListN.{length-set}
use Rattle.std.proofs.lemmas.Bool.{cases_eq, cases_lt}
use Rattle.std.proofs.lemmas.List.{append-nil}
use Rattle.std.proofs.Common.{eq-eqb, ne_eqb}
use Rattle.contexts.specs.declared.parts.StageBuffer as parts
use Rattle.contexts.specs.declared.parts.Context.{Context}
use Rattle.contexts.specs.declared.parts.Contexts.{Contexts}
use Rattle.contexts.specs.declared.parts.Own.{Own}
use Rattle.contexts.specs.declared.parts.VmContexts.{VmContexts}
use Rattle.contexts.specs.Keyed.{first_of_number, without_first}
use Rattle.contexts.specs.Reached.{Changes, no_changes, no_vm, vm_in, vm_after, context_no, context_in, reach_by, fitted, put_of}
use Rattle.contexts.specs.Lending.{stage_in, with_stage, own_put_of}
use Rattle.contexts.specs.Stages.{own_at, held_in, stage_after, stage_changed, let_go, returned, with_callback_answered}
use Rattle.contexts.specs.Holding.{IsThere}
use Rattle.contexts.proofs.Holding.{holds_its_own}
use Rattle.contexts.proofs.Isolation.{put_is_seen, all_else_stays}
use Rattle.filter_chain.specs.declared.stage.Stage.{Stage}
use Rattle.filter_chain.specs.Items.{holds_bytes}
use Rattle.filter_chain.specs.Chains.{bytes_at, bytes_held, without_held, paused, paused_at}
use Rattle.filter_chain.specs.Flow.{IsOtherThan, NoneIs, IsAlone}
use Rattle.law_chain.specs.Acts.{AreThere, HoldSame}
use Rattle.law_chain.specs.Acts.{NotOf}
use Rattle.law_chain.specs.PassThrough.{AreApart}
use Rattle.law_chain.proofs.Alike.{alone_at, there_at}

-- ---- contexts stay there

own_mapped : (h : Contexts) (v : VmContexts) (c : Option Context) → (reach_by h v c).own ≡ option_map (λ (b : Context). b.own) c
own_mapped h v None = refl
own_mapped h v (Some b) = refl

own_after : (h : Contexts) (vm e : ℕ) (o w : Own) → vm < length h.vms → own_at h vm e ≡ Some o → own_at (own_put_of h vm e w) vm e ≡ Some w
own_after h vm e o w within is =
    ap (λ s. s.reach.own) (put_is_seen (record no_changes { own = Some w }) vm e h within) ∙ ap (λ p. fitted p (Some w)) is

own_other : (h : Contexts) (vm e wm d : ℕ) (w : Own) → vm < length h.vms → (wm ≡ vm → d ≡ e → ⊥) → own_at (own_put_of h vm e w) wm d ≡ own_at h wm d
own_other h vm e wm d w within apart =
    let k : Contexts = own_put_of h vm e w in
    let stays = all_else_stays (record no_changes { own = Some w }) vm e h within in
    own_mapped k (vm_in k wm) (context_in k wm d)
    ∙ ⊎_elim
    (λ (same : wm ≡ vm).
    subst (λ m. option_map (λ (b : Context). b.own) (context_in k m d) ≡ option_map (λ (b : Context). b.own) (context_in h m d)) (sym same) (stays.owns d (apart same)))
    (λ (other : wm ≡ vm → ⊥). ap (λ (v : VmContexts). option_map (λ (b : Context). b.own) (first_of_number context_no d v.contexts)) (stays.vms wm other))
    (cases_eq wm vm)
    ∙ sym (own_mapped h (vm_in h wm) (context_in h wm d))

as_many : (h : Contexts) (vm e : ℕ) (w : Own) → length (own_put_of h vm e w).vms ≡ length h.vms
as_many h vm e w = length-set h.vms vm (vm_after (record no_changes { own = Some w }) e (context_in h vm e) (vm_in h vm))

there_put : (h : Contexts) (vm e : ℕ) (o w : Own) (wm d : ℕ) → vm < length h.vms → own_at h vm e ≡ Some o → IsThere h wm d → IsThere (own_put_of h vm e w) wm d
there_put h vm e o w wm d within is there =
    let less : wm < length (own_put_of h vm e w).vms = subst (λ (n : ℕ). wm < n) (sym (as_many h vm e w)) there.0 in
    ⊎_elim
    (λ (same : wm ≡ vm). ⊎_elim
    (λ (one : d ≡ e). (less, w, (λ i. own_at (own_put_of h vm e w) (same i) (one i)) ∙ own_after h vm e o w within is))
    (λ (two : d ≡ e → ⊥). (less, there.1, own_other h vm e wm d w within (λ _ one. two one) ∙ there.2))
    (cases_eq d e))
    (λ (other : wm ≡ vm → ⊥). (less, there.1, own_other h vm e wm d w within (λ same _. other same) ∙ there.2))
    (cases_eq wm vm)

there_changed : (f : parts.StageBuffer → parts.StageBuffer) (h : Contexts) (vm e : ℕ) (r : Bool) (wm d : ℕ) → IsThere h vm e → IsThere h wm d → IsThere (stage_changed f h vm e r) wm d
there_changed f h vm e r wm d here there =
    subst (λ (p : Option Own). IsThere (stage_after f h vm e r p) wm d) (sym here.2)
    (there_put h vm e here.1 (with_stage r (f (stage_in r here.1)) here.1) wm d here.0 here.2 there)

-- the contexts of stages are there after a change of one of them
pub all_there : (f : parts.StageBuffer → parts.StageBuffer) (h : Contexts) (vm e : ℕ) (r : Bool) (ss : List Stage) → IsThere h vm e → AreThere h ss → AreThere (stage_changed f h vm e r) ss
all_there f h vm e r [] here there = tt
all_there f h vm e r (s ∷ ss) here there = (there_changed f h vm e r s.vm s.context here there.0, all_there f h vm e r ss here there.1)

-- ---- all stages hold what they held, or all but one

pub hold_all : (b : Contexts) (ss : List Stage) → HoldSame b b ss
hold_all b [] = tt
hold_all b (s ∷ ss) = (refl, hold_all b ss)

pub hold_then : (b c d : Contexts) (ss : List Stage) → HoldSame b c ss → HoldSame c d ss → HoldSame b d ss
hold_then b c d [] first next = tt
hold_then b c d (s ∷ ss) first next = (next.0 ∙ first.0, hold_then b c d ss first.1 next.1)

pub hold_drop : (n : ℕ) (b c : Contexts) (ss : List Stage) → HoldSame b c ss → HoldSame b c (drop n ss)
hold_drop zero b c ss same = same
hold_drop (suc n) b c [] same = tt
hold_drop (suc n) b c (s ∷ ss) same = hold_drop n b c ss same.1

pub hold_at : (b c : Contexts) (ss : List Stage) (k : ℕ) (s : Stage) → slice_get ss k ≡ Some s → HoldSame b c ss → bytes_at c s ≡ bytes_at b s
hold_at b c [] k s at same = absurd (cc)
hold_at b c (x ∷ xs) zero s at same =
    let here : x ≡ s = (cc) in
    subst (λ (y : Stage). bytes_at c y ≡ bytes_at b y) here same.0
hold_at b c (x ∷ xs) (suc k) s at same = hold_at b c xs k s at same.1

abbrev pub HoldBut : Contexts → Contexts → ℕ → List Stage → Type 0
HoldBut b c k [] = Unit {0}
HoldBut b c zero (s ∷ ss) = HoldSame b c ss
HoldBut b c (suc k) (s ∷ ss) = (bytes_at c s ≡ bytes_at b s) × HoldBut b c k ss

pub but_all : (b : Contexts) (k : ℕ) (ss : List Stage) → HoldBut b b k ss
but_all b k [] = tt
but_all b zero (s ∷ ss) = hold_all b ss
but_all b (suc k) (s ∷ ss) = (refl, but_all b k ss)

pub but_at : (b c : Contexts) (ss : List Stage) (k j : ℕ) (s : Stage) → slice_get ss j ≡ Some s → HoldBut b c k ss → (j ≡ k → ⊥) → bytes_at c s ≡ bytes_at b s
but_at b c [] k j s at same apart = absurd (cc)
but_at b c (x ∷ xs) zero zero s at same apart = absurd (apart refl)
but_at b c (x ∷ xs) zero (suc j) s at same apart = hold_at b c xs j s at same
but_at b c (x ∷ xs) (suc k) zero s at same apart =
    let here : x ≡ s = (cc) in
    subst (λ (y : Stage). bytes_at c y ≡ bytes_at b y) here same.0
but_at b c (x ∷ xs) (suc k) (suc j) s at same apart = but_at b c xs k j s at same.1 (λ e. apart (ap suc e))

hold_with : (b c : Contexts) (ss : List Stage) (k : ℕ) (s : Stage) → slice_get ss k ≡ Some s → bytes_at c s ≡ bytes_at b s → HoldBut b c k ss → HoldSame b c ss
hold_with b c [] k s at one same = tt
hold_with b c (x ∷ xs) zero s at one same =
    let here : x ≡ s = (cc) in
    (subst (λ (y : Stage). bytes_at c y ≡ bytes_at b y) (sym here) one, same)
hold_with b c (x ∷ xs) (suc k) s at one same = (same.0, hold_with b c xs k s at one same.1)

Keeps : Contexts → Contexts → Stage → Type 0
Keeps b c s = (t : Stage) → IsOtherThan s t → bytes_at c t ≡ bytes_at b t

none_changed : (b c : Contexts) (s : Stage) (ss : List Stage) → Keeps b c s → NoneIs s ss → HoldSame b c ss
unfolding Keeps
none_changed b c s [] keeps none = tt
none_changed b c s (t ∷ ss) keeps none = (keeps t none.0, none_changed b c s ss keeps none.1)

one_changed : (b c : Contexts) (s : Stage) (k : ℕ) (ss : List Stage) → Keeps b c s → IsAlone s k ss → HoldBut b c k ss
unfolding Keeps
one_changed b c s k [] keeps alone = tt
one_changed b c s zero (t ∷ ss) keeps alone = none_changed b c s ss keeps alone
one_changed b c s (suc k) (t ∷ ss) keeps alone = (keeps t alone.0, one_changed b c s k ss keeps alone.1)

-- a change of the stage at a place
pub but_changed : (f : parts.StageBuffer → parts.StageBuffer) (h : Contexts) (ss : List Stage) (k : ℕ) (s : Stage) → slice_get ss k ≡ Some s → AreApart ss → AreThere h ss
    → HoldBut h (stage_changed f h s.vm s.context s.response) k ss
unfolding Keeps
but_changed f h ss k s at apart there =
    one_changed h (stage_changed f h s.vm s.context s.response) s k ss
    (λ t other. holds_its_own.others f h s.vm s.context s.response t.vm t.context t.response (there_at h ss k s at there).0 other) (alone_at ss k s at apart)

-- ---- the callback has returned

pub paused_same : (h : Contexts) (ss : List Stage) (k : ℕ) → AreApart ss → AreThere h ss → HoldSame h (paused h k ss) ss
paused_same h ss k apart there = by_stage (slice_get ss k) refl
  where
    by_stage : (o : Option Stage) → slice_get ss k ≡ o → HoldSame h (paused_at h o) ss
    by_stage None at = hold_all h ss
    by_stage (Some s) at =
        hold_with h (with_callback_answered h s.vm s.context s.response) ss k s at (holds_its_own.answered_here h s.vm s.context s.response (there_at h ss k s at there))
        (but_changed returned h ss k s at apart there)

pub paused_there : (h : Contexts) (ss : List Stage) (k : ℕ) → AreThere h ss → AreThere (paused h k ss) ss
paused_there h ss k there = by_stage (slice_get ss k) refl
  where
    by_stage : (o : Option Stage) → slice_get ss k ≡ o → AreThere (paused_at h o) ss
    by_stage None at = there
    by_stage (Some s) at = all_there returned h s.vm s.context s.response ss (there_at h ss k s at there) there

-- ---- what it holds is let go

pub gone_but : (h : Contexts) (ss : List Stage) (k : ℕ) (s : Stage) → slice_get ss k ≡ Some s → AreApart ss → AreThere h ss → HoldBut h (without_held h s) k ss
gone_but h ss k s at apart there = by_held (holds_bytes s.held) refl
  where
    by_held : (b : Bool) → holds_bytes s.held ≡ b → HoldBut h (without_held h s) k ss
    by_held true is = rw is (but_changed let_go h ss k s at apart there)
    by_held false is = rw is (but_all h k ss)

pub gone_there : (h : Contexts) (ss : List Stage) (k : ℕ) (s : Stage) → slice_get ss k ≡ Some s → AreThere h ss → AreThere (without_held h s) ss
gone_there h ss k s at there = by_held (holds_bytes s.held) refl
  where
    by_held : (b : Bool) → holds_bytes s.held ≡ b → AreThere (without_held h s) ss
    by_held true is = rw is (all_there let_go h s.vm s.context s.response ss (there_at h ss k s at there) there)
    by_held false is = rw is there

-- nothing is left in the buffer, where there was nothing in it unless it held bytes
pub gone_here : (h : Contexts) (s : Stage) → IsThere h s.vm s.context → (holds_bytes s.held ≡ false → bytes_at h s ≡ []) → bytes_at (without_held h s) s ≡ []
gone_here h s there clean = by_held (holds_bytes s.held) refl
  where
    by_held : (b : Bool) → holds_bytes s.held ≡ b → bytes_at (without_held h s) s ≡ []
    by_held true is = rw is (holds_its_own.emptied_here h s.vm s.context s.response there)
    by_held false is = rw is (clean is)

-- its bytes go with what it held
pub gone_bytes : (h : Contexts) (s : Stage) → IsThere h s.vm s.context → bytes_held h s ++ bytes_at (without_held h s) s ≡ bytes_at h s
gone_bytes h s there = by_held (holds_bytes s.held) refl
  where
    by_held : (b : Bool) → holds_bytes s.held ≡ b → bytes_held h s ++ bytes_at (without_held h s) s ≡ bytes_at h s
    by_held true is = rw is (ap (λ (l : List ℕ). bytes_at h s ++ l) (holds_its_own.emptied_here h s.vm s.context s.response there) ∙ append-nil (bytes_at h s))
    by_held false is = rw is

-- ---- what of the contexts counts: those of the VMs

own_by_vms : (b c : Contexts) (vm e : ℕ) → c.vms ≡ b.vms → own_at c vm e ≡ own_at b vm e
own_by_vms b c vm e same =
    own_mapped c (vm_in c vm) (context_in c vm e)
    ∙ (ap (λ (vms : List VmContexts). option_map (λ (k : Context). k.own) (first_of_number context_no e (slice_index_or vms vm no_vm).contexts)) same
    ∙ sym (own_mapped b (vm_in b vm) (context_in b vm e)))

bytes_by_vms : (b c : Contexts) (s : Stage) → c.vms ≡ b.vms → bytes_at c s ≡ bytes_at b s
bytes_by_vms b c s same = ap (held_in s.response) (own_by_vms b c s.vm s.context same)

pub hold_by_vms : (b c : Contexts) (ss : List Stage) → c.vms ≡ b.vms → HoldSame b c ss
hold_by_vms b c [] same = tt
hold_by_vms b c (s ∷ ss) same = (bytes_by_vms b c s same, hold_by_vms b c ss same)

pub there_by_vms : (b c : Contexts) (ss : List Stage) → c.vms ≡ b.vms → AreThere b ss → AreThere c ss
there_by_vms b c [] same there = tt
there_by_vms b c (s ∷ ss) same there = (
  (subst (λ (vms : List VmContexts). s.vm < length vms) (sym same) there.0.0, there.0.1, own_by_vms b c s.vm s.context same ∙ there.0.2),
  there_by_vms b c ss same there.1,
)

-- ---- other stages, whether the context of the changed one is there or not

index_past : (vms : List VmContexts) (vm : ℕ) → length vms ≤ vm → slice_index_or vms vm no_vm ≡ no_vm
index_past [] vm past = refl
index_past (v ∷ vms) zero past = absurd (omega arith)
index_past (v ∷ vms) (suc vm) past = index_past vms vm (omega arith)

there_within : (h : Contexts) (vm e : ℕ) (o : Own) → own_at h vm e ≡ Some o → vm < length h.vms
there_within h vm e o is =
    ⊎_elim (λ (less : vm < length h.vms). less)
    (λ (past : length h.vms ≤ vm).
    let none : own_at h vm e ≡ None
    = own_mapped h (vm_in h vm) (context_in h vm e) ∙ ap (λ (v : VmContexts). option_map (λ (k : Context). k.own) (first_of_number context_no e v.contexts)) (index_past h.vms vm past) in
    let both : None ≡ Some o = sym none ∙ is in
    absurd (cc both))
    (cases_lt vm (length h.vms))

none_held : (f : parts.StageBuffer → parts.StageBuffer) (h : Contexts) (t : Stage) (o : Own) (ss : List Stage) → own_at h t.vm t.context ≡ Some o → NoneIs t ss
    → HoldSame h (stage_changed f h t.vm t.context t.response) ss
none_held f h t o [] is none = tt
none_held f h t o (s ∷ ss) is none = (
  holds_its_own.others f h t.vm t.context t.response s.vm s.context s.response (there_within h t.vm t.context o is) none.0,
  none_held f h t o ss is none.1,
)

pub hold_other : (f : parts.StageBuffer → parts.StageBuffer) (h : Contexts) (t : Stage) (ss : List Stage) → NoneIs t ss → HoldSame h (stage_changed f h t.vm t.context t.response) ss
hold_other f h t ss none = by_own (own_at h t.vm t.context) refl
  where
    by_own : (o : Option Own) → own_at h t.vm t.context ≡ o → HoldSame h (stage_changed f h t.vm t.context t.response) ss
    by_own None is = subst (λ (p : Option Own). HoldSame h (stage_after f h t.vm t.context t.response p) ss) (sym is) (hold_all h ss)
    by_own (Some o) is = none_held f h t o ss is none

pub there_other : (f : parts.StageBuffer → parts.StageBuffer) (h : Contexts) (t : Stage) (ss : List Stage) → AreThere h ss → AreThere (stage_changed f h t.vm t.context t.response) ss
there_other f h t ss there = by_own (own_at h t.vm t.context) refl
  where
    by_own : (o : Option Own) → own_at h t.vm t.context ≡ o → AreThere (stage_changed f h t.vm t.context t.response) ss
    by_own None is = subst (λ (p : Option Own). AreThere (stage_after f h t.vm t.context t.response p) ss) (sym is) there
    by_own (Some o) is = all_there f h t.vm t.context t.response ss (there_within h t.vm t.context o is, o, is) there

-- ---- a context has something else for itself, and its stages hold what they held

own_bytes : (h : Contexts) (vm e : ℕ) (o w : Own) (s : Stage) → own_at h vm e ≡ Some o → ((r : Bool) → held_in r (Some w) ≡ held_in r (Some o)) → bytes_at (own_put_of h vm e w) s ≡ bytes_at h s
own_bytes h vm e o w s is holds =
    let within : vm < length h.vms = there_within h vm e o is in
    let k : Contexts = own_put_of h vm e w in
    ⊎_elim
    (λ (same : s.vm ≡ vm). ⊎_elim
    (λ (one : s.context ≡ e).
    (λ i. held_in s.response (own_at k (same i) (one i)))
    ∙ (ap (held_in s.response) (own_after h vm e o w within is)
    ∙ (holds s.response ∙ (ap (held_in s.response) (sym is) ∙ (λ i. held_in s.response (own_at h (sym same i) (sym one i)))))))
    (λ (two : s.context ≡ e → ⊥). ap (held_in s.response) (own_other h vm e s.vm s.context w within (λ _ one. two one)))
    (cases_eq s.context e))
    (λ (other : s.vm ≡ vm → ⊥). ap (held_in s.response) (own_other h vm e s.vm s.context w within (λ same _. other same)))
    (cases_eq s.vm vm)

pub hold_own : (h : Contexts) (vm e : ℕ) (o w : Own) (ss : List Stage) → own_at h vm e ≡ Some o → ((r : Bool) → held_in r (Some w) ≡ held_in r (Some o)) → HoldSame h (own_put_of h vm e w) ss
hold_own h vm e o w [] is holds = tt
hold_own h vm e o w (s ∷ ss) is holds = (own_bytes h vm e o w s is holds, hold_own h vm e o w ss is holds)

pub there_own : (h : Contexts) (vm e : ℕ) (o w : Own) (ss : List Stage) → own_at h vm e ≡ Some o → AreThere h ss → AreThere (own_put_of h vm e w) ss
there_own h vm e o w [] is there = tt
there_own h vm e o w (s ∷ ss) is there = (there_put h vm e o w s.vm s.context (there_within h vm e o is) is there.0, there_own h vm e o w ss is there.1)

-- ---- a change of what is no stage's

fitted_none : (p : Option Own) → fitted p None ≡ p
fitted_none None = refl
fitted_none (Some o) = refl

own_kept : (s : Changes) (h : Contexts) (vm e wm d : ℕ) → s.own ≡ None → vm < length h.vms → own_at (put_of s vm e h) wm d ≡ own_at h wm d
own_kept s h vm e wm d none within =
    let k : Contexts = put_of s vm e h in
    let stays = all_else_stays s vm e h within in
    ⊎_elim
    (λ (same : wm ≡ vm). ⊎_elim
    (λ (one : d ≡ e).
    (λ i. own_at k (same i) (one i))
    ∙ (ap (λ t. t.reach.own) (put_is_seen s vm e h within)
    ∙ (ap (fitted (own_at h vm e)) none ∙ (fitted_none (own_at h vm e) ∙ (λ i. own_at h (sym same i) (sym one i))))))
    (λ (two : d ≡ e → ⊥).
    own_mapped k (vm_in k wm) (context_in k wm d)
    ∙ (subst (λ m. option_map (λ (b : Context). b.own) (context_in k m d) ≡ option_map (λ (b : Context). b.own) (context_in h m d)) (sym same) (stays.owns d two)
    ∙ sym (own_mapped h (vm_in h wm) (context_in h wm d))))
    (cases_eq d e))
    (λ (other : wm ≡ vm → ⊥).
    own_mapped k (vm_in k wm) (context_in k wm d)
    ∙ (ap (λ (v : VmContexts). option_map (λ (b : Context). b.own) (first_of_number context_no d v.contexts)) (stays.vms wm other)
    ∙ sym (own_mapped h (vm_in h wm) (context_in h wm d))))
    (cases_eq wm vm)

pub hold_kept : (s : Changes) (h : Contexts) (vm e : ℕ) (ss : List Stage) → s.own ≡ None → vm < length h.vms → HoldSame h (put_of s vm e h) ss
hold_kept s h vm e [] none within = tt
hold_kept s h vm e (t ∷ ss) none within = (ap (held_in t.response) (own_kept s h vm e t.vm t.context none within), hold_kept s h vm e ss none within)

pub kept_many : (s : Changes) (h : Contexts) (vm e : ℕ) → length (put_of s vm e h).vms ≡ length h.vms
kept_many s h vm e = length-set h.vms vm (vm_after s e (context_in h vm e) (vm_in h vm))

pub there_kept : (s : Changes) (h : Contexts) (vm e : ℕ) (ss : List Stage) → s.own ≡ None → vm < length h.vms → AreThere h ss → AreThere (put_of s vm e h) ss
there_kept s h vm e [] none within there = tt
there_kept s h vm e (t ∷ ss) none within there = (
  (subst (λ (n : ℕ). t.vm < n) (sym (kept_many s h vm e)) there.0.0, there.0.1, own_kept s h vm e t.vm t.context none within ∙ there.0.2),
  there_kept s h vm e ss none within there.1,
)

-- ---- the contexts of one VM are others

index_other : (vms : List VmContexts) (i j : ℕ) (v : VmContexts) → (j ≡ i → ⊥) → slice_index_or (slice_set vms i v) j no_vm ≡ slice_index_or vms j no_vm
index_other [] i j v apart = refl
index_other (w ∷ vms) zero zero v apart = absurd (apart refl)
index_other (w ∷ vms) zero (suc j) v apart = refl
index_other (w ∷ vms) (suc i) zero v apart = refl
index_other (w ∷ vms) (suc i) (suc j) v apart = index_other vms i j v (λ e. apart (ap suc e))

index_same : (vms : List VmContexts) (i : ℕ) (v : VmContexts) → i < length vms → slice_index_or (slice_set vms i v) i no_vm ≡ v
index_same [] i v less = absurd (omega arith)
index_same (w ∷ vms) zero v less = refl
index_same (w ∷ vms) (suc i) v less = index_same vms i v (omega arith)

abbrev pub own_found : ℕ → List Context → Option Own
own_found d cs = option_map (λ (k : Context). k.own) (first_of_number context_no d cs)

pub own_in : (h : Contexts) (vm d : ℕ) → own_at h vm d ≡ own_found d (vm_in h vm).contexts
own_in h vm d = own_mapped h (vm_in h vm) (context_in h vm d)

own_set : (h k : Contexts) (vm : ℕ) (v : VmContexts) → k.vms ≡ slice_set h.vms vm v → (wm d : ℕ) (o : Own) → own_at h wm d ≡ Some o → (wm ≡ vm → own_found d v.contexts ≡ Some o)
    → own_at k wm d ≡ Some o
own_set h k vm v is wm d o there keeps =
    own_in k wm d
    ∙ (ap (λ (vms : List VmContexts). own_found d (slice_index_or vms wm no_vm).contexts) is
    ∙ ⊎_elim
    (λ (same : wm ≡ vm).
    let less : vm < length h.vms = subst (λ (m : ℕ). m < length h.vms) same (there_within h wm d o there) in
    ap (λ (m : ℕ). own_found d (slice_index_or (slice_set h.vms vm v) m no_vm).contexts) same
    ∙ (ap (λ (w : VmContexts). own_found d w.contexts) (index_same h.vms vm v less) ∙ keeps same))
    (λ (other : wm ≡ vm → ⊥).
    ap (λ (w : VmContexts). own_found d w.contexts) (index_other h.vms vm wm v other) ∙ (sym (own_in h wm d) ∙ there))
    (cases_eq wm vm))

-- the stages' contexts are among them as they were
abbrev pub KeepsFound : Contexts → ℕ → VmContexts → List Stage → Type 0
KeepsFound h vm v [] = Unit {0}
KeepsFound h vm v (s ∷ ss) = ((o : Own) → own_at h s.vm s.context ≡ Some o → s.vm ≡ vm → own_found s.context v.contexts ≡ Some o) × KeepsFound h vm v ss

pub hold_set : (h k : Contexts) (vm : ℕ) (v : VmContexts) (ss : List Stage) → k.vms ≡ slice_set h.vms vm v → AreThere h ss → KeepsFound h vm v ss → HoldSame h k ss
hold_set h k vm v [] is there keeps = tt
hold_set h k vm v (s ∷ ss) is there keeps = (
  ap (held_in s.response) (own_set h k vm v is s.vm s.context there.0.1 there.0.2 (keeps.0 there.0.1 there.0.2) ∙ sym there.0.2),
  hold_set h k vm v ss is there.1 keeps.1,
)

pub there_set : (h k : Contexts) (vm : ℕ) (v : VmContexts) (ss : List Stage) → k.vms ≡ slice_set h.vms vm v → AreThere h ss → KeepsFound h vm v ss → AreThere k ss
there_set h k vm v [] is there keeps = tt
there_set h k vm v (s ∷ ss) is there keeps = (
  (
    subst (λ (m : ℕ). s.vm < m) (sym (ap (λ (vms : List VmContexts). length vms) is ∙ length-set h.vms vm v)) there.0.0,
    there.0.1,
    own_set h k vm v is s.vm s.context there.0.1 there.0.2 (keeps.0 there.0.1 there.0.2),
  ),
  there_set h k vm v ss is there.1 keeps.1,
)

-- the same ones
pub keeps_same : (h : Contexts) (vm : ℕ) (v : VmContexts) (ss : List Stage) → v.contexts ≡ (vm_in h vm).contexts → KeepsFound h vm v ss
keeps_same h vm v [] is = tt
keeps_same h vm v (s ∷ ss) is = (
  (λ o there same. ap (own_found s.context) is ∙ (ap (λ (m : ℕ). own_found s.context (vm_in h m).contexts) (sym same) ∙ (sym (own_in h s.vm s.context) ∙ there))),
  keeps_same h vm v ss is,
)

-- one more
found_more : (d : ℕ) (cs : List Context) (c : Context) (o : Own) → own_found d cs ≡ Some o → own_found d (cs ++ c ∷ []) ≡ Some o
found_more d [] c o is = absurd (cc)
found_more d (k ∷ cs) c o is = by_id (found_more d cs c o) (k.id == d) refl
  where
    by_id : (own_found d cs ≡ Some o → own_found d (cs ++ c ∷ []) ≡ Some o) → (b : Bool) → (k.id == d) ≡ b → own_found d (k ∷ (cs ++ c ∷ [])) ≡ Some o
    by_id later true e = rw e (rw e at is)
    by_id later false e = rw e (later (rw e at is))

pub keeps_more : (h : Contexts) (vm : ℕ) (v : VmContexts) (c : Context) (ss : List Stage) → v.contexts ≡ (vm_in h vm).contexts ++ c ∷ [] → KeepsFound h vm v ss
keeps_more h vm v c [] is = tt
keeps_more h vm v c (s ∷ ss) is = (
  (λ o there same.
      ap (own_found s.context) is
      ∙ found_more s.context (vm_in h vm).contexts c o
      (ap (λ (m : ℕ). own_found s.context (vm_in h m).contexts) (sym same) ∙ (sym (own_in h s.vm s.context) ∙ there))),
  keeps_more h vm v c ss is,
)

-- one less
found_less : (d id : ℕ) (cs : List Context) → (d ≡ id → ⊥) → own_found d (without_first context_no id cs) ≡ own_found d cs
found_less d id [] apart = refl
found_less d id (k ∷ cs) apart = by_id (found_less d id cs apart) (cases_eq k.id id)
  where
    by_id : own_found d (without_first context_no id cs) ≡ own_found d cs → (k.id ≡ id) ⊎ (k.id ≡ id → ⊥) → own_found d (without_first context_no id (k ∷ cs)) ≡ own_found d (k ∷ cs)
    by_id later (inl same) =
        let one : (k.id == id) ≡ true = eq-eqb k.id id same in
        let two : (k.id == d) ≡ false = ne_eqb k.id d (λ e. apart (sym e ∙ same)) in
        rw (one, two)
    by_id later (inr other) =
        let one : (k.id == id) ≡ false = ne_eqb k.id id other in
        rw one (by_found later (k.id == d) refl)
      where
        by_found : own_found d (without_first context_no id cs) ≡ own_found d cs → (b : Bool) → (k.id == d) ≡ b → own_found d (k ∷ without_first context_no id cs) ≡ own_found d (k ∷ cs)
        by_found here true e = rw e
        by_found here false e = rw e here

pub keeps_less : (h : Contexts) (vm id : ℕ) (v : VmContexts) (ss : List Stage) → v.contexts ≡ without_first context_no id (vm_in h vm).contexts → NotOf vm id ss → KeepsFound h vm v ss
keeps_less h vm id v [] is not_of = tt
keeps_less h vm id v (s ∷ ss) is not_of = (
  (λ o there same.
      ap (own_found s.context) is
      ∙ (found_less s.context id (vm_in h vm).contexts (not_of.0 same)
      ∙ (ap (λ (m : ℕ). own_found s.context (vm_in h m).contexts) (sym same) ∙ (sym (own_in h s.vm s.context) ∙ there)))),
  keeps_less h vm id v ss is not_of.1,
)
