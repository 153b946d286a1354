-- To put back what a context has for itself changes nothing.
use Rattle.std.proofs.Common.{◌≡◌, ◌<◌, ℕ, ◌==◌, Bool, true, false, cond, List, [], ◌∷◌, length, Option, None, Some, Result, Ok, Err, refl, sym, ap, ◌∙◌}
use Rattle.std.specs.Prelude.{slice_set, OnErr}
use Rattle.contexts.specs.Keyed.{first_of_number, with_first_changed}
use Rattle.contexts.specs.declared.parts.StageBuffer.{StageBuffer}
use Rattle.contexts.specs.declared.parts.Own.{Own}
use Rattle.contexts.specs.declared.parts.Context.{Context}
use Rattle.contexts.specs.declared.parts.VmContexts.{VmContexts}
use Rattle.contexts.specs.declared.parts.Contexts.{Contexts}
use Rattle.contexts.specs.Reached.{no_changes, vm_in, no_vm, context_no, context_in, with_own, reach_by, seen_of, contexts_after}
use Rattle.contexts.specs.Lending.{own_put_of, stage_in, with_stage}
use Rattle.contexts.proofs.Places.{set_same, none_of, nothing_behind, none_is, from_some}

module _ {A : Type 0} (number : A → ℕ) (k : ℕ) (f : A → A) (c : A) (same : f c ≡ c) where
  same_there : (b : Bool) (x : A) (xs : List A) → cond b (Some x) (first_of_number number k xs) ≡ Some c → (first_of_number number k xs ≡ Some c → with_first_changed number k f xs ≡ xs) → cond b (f x ∷ xs) (x ∷ with_first_changed number k f xs) ≡ x ∷ xs
  same_there true x xs is ih = ap (λ y. y ∷ xs) (ap f (from_some is) ∙ same ∙ sym (from_some is))
  same_there false x xs is ih = ap (λ ys. x ∷ ys) (ih is)

  pub changed_same : (xs : List A) → first_of_number number k xs ≡ Some c → with_first_changed number k f xs ≡ xs
  changed_same [] is = absurd (none_is is)
  changed_same (x ∷ xs) is = same_there (number x == k) x xs is (changed_same xs)

own_same : (e : ℕ) (o : Own) (cs : List Context) (p : Option Context) → first_of_number context_no e cs ≡ p → (h : Contexts) (v : VmContexts) → (reach_by h v p).own ≡ Some o → contexts_after (record no_changes { own = Some o }) e p cs ≡ cs
own_same e o cs None at h v is = refl
own_same e o cs (Some c) at h v is = changed_same context_no e (with_own o) c (λ j. record c { own = sym (from_some is) j }) cs at

pub own_put_same : (h : Contexts) (vm e : ℕ) (o : Own) → vm < length h.vms → (seen_of h vm e).reach.own ≡ Some o → own_put_of h vm e o ≡ h
own_put_same h vm e o within is =
    let v = vm_in h vm in
    (λ j. record h {
      vms = slice_set h.vms vm (record v { contexts = own_same e o v.contexts (context_in h vm e) refl h v is j });
      exchanges = none_of (context_in h vm e) h.exchanges o j;
      effects = nothing_behind h.effects j;
    })
    ∙ (λ j. record h { vms = set_same h.vms vm no_vm within j })

stage_same : (r : Bool) (o : Own) → with_stage r (stage_in r o) o ≡ o
stage_same true o = refl
stage_same false o = refl

-- a stage that is put back as it was
pub stage_put_same : (h : Contexts) (vm e : ℕ) (r : Bool) (o : Own) (t : StageBuffer) → vm < length h.vms → Some o ≡ (seen_of h vm e).reach.own → t ≡ stage_in r o → own_put_of h vm e (with_stage r t o) ≡ h
stage_put_same h vm e r o t within is at = ap (λ s. own_put_of h vm e (with_stage r s o)) at ∙ ap (own_put_of h vm e) (stage_same r o) ∙ own_put_same h vm e o within (sym is)

pub err_then : {A E : Type 0} {P Q : Type 0} (r : Result A E) → (P → Q) → OnErr r P → OnErr r Q
err_then (Ok a) f p = p
err_then (Err e) f p = f p
