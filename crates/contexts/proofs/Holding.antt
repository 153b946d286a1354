-- A stage holds its own bytes.
use Rattle.std.proofs.Common.{◌≡◌, ◌<◌, ℕ, Bool, true, false, List, [], ◌++◌, length, Option, None, Some, refl, sym, ap, ◌∙◌, subst, ⊎_elim}
use Rattle.std.specs.Option.{option_map}
use Rattle.std.proofs.lemmas.Bool.{cases_eq}
use Rattle.contexts.specs.declared.parts.StageBuffer.{StageBuffer}
use Rattle.contexts.specs.declared.parts.Own.{Own}
use Rattle.contexts.specs.declared.parts.Context.{Context}
use Rattle.contexts.specs.declared.parts.VmContexts.{VmContexts}
use Rattle.contexts.specs.declared.parts.Contexts.{Contexts}
use Rattle.contexts.specs.Keyed.{first_of_number}
use Rattle.contexts.specs.Reached.{no_changes, vm_in, context_no, context_in, reach_by, seen_of, put_of, fitted, seen_after}
use Rattle.contexts.specs.Lending.{stage_in, with_stage, own_put_of}
use Rattle.contexts.specs.Stages.{own_at, held_in, held_at, stage_after, stage_changed, with_bytes, let_go, returned, with_buffered, without_buffer, with_callback_answered}
use Rattle.contexts.specs.Holding.{IsThere, IsOther, HoldsItsOwn}
use Rattle.contexts.proofs.Isolation.{put_is_seen, all_else_stays}

stage_same : (r : Bool) (t : StageBuffer) (o : Own) → stage_in r (with_stage r t o) ≡ t
stage_same true t o = refl
stage_same false t o = refl

stage_other : (r q : Bool) (t : StageBuffer) (o : Own) → (q ≡ r → ⊥) → stage_in q (with_stage r t o) ≡ stage_in q o
stage_other true true t o apart = absurd (apart refl)
stage_other true false t o apart = refl
stage_other false true t o apart = refl
stage_other false false t o apart = absurd (apart refl)

-- what a context has for itself, once it was written
own_after : (h : Contexts) (vm e : ℕ) (o w : Own) → vm < length h.vms → own_at h vm e ≡ Some o → own_at (own_put_of h vm e w) vm e ≡ Some w
own_after h vm e o w within is =
    ap (λ s. s.reach.own) (put_is_seen (record no_changes { own = Some w }) vm e h within) ∙ ap (λ p. fitted p (Some w)) is

held_here : (f : StageBuffer → StageBuffer) (h : Contexts) (vm e : ℕ) (r : Bool) (o : Own) → vm < length h.vms → own_at h vm e ≡ Some o → held_at (stage_changed f h vm e r) vm e r ≡ (f (stage_in r o)).held
held_here f h vm e r o within is =
    ap (λ p. held_at (stage_after f h vm e r p) vm e r) is
    ∙ ap (held_in r) (own_after h vm e o (with_stage r (f (stage_in r o)) o) within is)
    ∙ ap (λ (t : StageBuffer). t.held) (stage_same r (f (stage_in r o)) o)

held_was : (h : Contexts) (vm e : ℕ) (r : Bool) (o : Own) → own_at h vm e ≡ Some o → (stage_in r o).held ≡ held_at h vm e r
held_was h vm e r o is = ap (held_in r) (sym is)

-- what another context has for itself
own_mapped : (h : Contexts) (v : VmContexts) (c : Option Context) → (reach_by h v c).own ≡ option_map (λ (b : Context). b.own) c
own_mapped h v None = refl
own_mapped h v (Some b) = refl

own_other : (h : Contexts) (vm e wm d : ℕ) (w : Own) → vm < length h.vms → (wm ≡ vm → d ≡ e → ⊥) → own_at (own_put_of h vm e w) wm d ≡ own_at h wm d
own_other h vm e wm d w within apart =
    let k : Contexts = own_put_of h vm e w in
    let stays = all_else_stays (record no_changes { own = Some w }) vm e h within in
    own_mapped k (vm_in k wm) (context_in k wm d)
    ∙ ⊎_elim
    (λ (same : wm ≡ vm).
    subst (λ m. option_map (λ (b : Context). b.own) (context_in k m d) ≡ option_map (λ (b : Context). b.own) (context_in h m d)) (sym same) (stays.owns d (apart same)))
    (λ (other : wm ≡ vm → ⊥). ap (λ (v : VmContexts). option_map (λ (b : Context). b.own) (first_of_number context_no d v.contexts)) (stays.vms wm other))
    (cases_eq wm vm)
    ∙ sym (own_mapped h (vm_in h wm) (context_in h wm d))

others_at : (f : StageBuffer → StageBuffer) (h : Contexts) (vm e : ℕ) (r : Bool) (wm d : ℕ) (q : Bool) → vm < length h.vms → IsOther vm e r wm d q → (p : Option Own) → own_at h vm e ≡ p → held_at (stage_after f h vm e r p) wm d q ≡ held_at h wm d q
others_at f h vm e r wm d q within apart None is = refl
others_at f h vm e r wm d q within apart (Some o) is =
    let w : Own = with_stage r (f (stage_in r o)) o in
    ⊎_elim
    (λ (same : wm ≡ vm). ⊎_elim
    (λ (one : d ≡ e).
    (λ i. held_at (own_put_of h vm e w) (same i) (one i) q)
    ∙ ap (held_in q) (own_after h vm e o w within is)
    ∙ ap (λ (t : StageBuffer). t.held) (stage_other r q (f (stage_in r o)) o (apart same one))
    ∙ held_was h vm e q o is
    ∙ (λ i. held_at h (sym same i) (sym one i) q))
    (λ (two : d ≡ e → ⊥). ap (held_in q) (own_other h vm e wm d w within (λ _ one. two one)))
    (cases_eq d e))
    (λ (other : wm ≡ vm → ⊥). ap (held_in q) (own_other h vm e wm d w within (λ same _. other same)))
    (cases_eq wm vm)

pub holds_its_own : HoldsItsOwn
holds_its_own = record {
  filled_here = λ h vm e r bytes end is. held_here (with_bytes bytes end) h vm e r is.1 is.0 is.2 ∙ ap (λ (b : List ℕ). b ++ bytes) (held_was h vm e r is.1 is.2);
  emptied_here = λ h vm e r is. held_here let_go h vm e r is.1 is.0 is.2;
  answered_here = λ h vm e r is. held_here returned h vm e r is.1 is.0 is.2 ∙ held_was h vm e r is.1 is.2;
  others = λ f h vm e r wm d q within apart. others_at f h vm e r wm d q within apart (own_at h vm e) refl;
}
