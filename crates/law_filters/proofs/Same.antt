-- What is done to exchanges leaves the ids of contexts as they are.
use Rattle.std.proofs.Common.{◌≡◌, refl, ℕ, zero, suc, ◌+◌, Bool, true, false, List, [], ◌∷◌, length, map, ap, ◌∙◌, sym, subst, ⊎_elim}
use Rattle.std.proofs.lemmas.Bool.{cases_eq}
use Rattle.std.proofs.lemmas.List.{length-set}
use Rattle.std.specs.Prelude.{slice_set, slice_get, slice_index_or, nat_le, if◌then◌else◌, Option, None, Some}
use Rattle.contexts.proofs.Keyed.{kept}
use Rattle.contexts.specs.Lending.{stage_in, with_stage}
use Rattle.contexts.specs.Reached.{Changes, no_changes, vm_in, no_vm, context_in, context_no, put_of, vm_after, contexts_after, changed_by, with_own, with_tick}
use Rattle.contexts.specs.Stages.{own_at, stage_after, stage_changed, without_buffer, let_go, returned, with_bytes}
use Rattle.contexts.specs.declared.parts.CallAnswer.{CallAnswer}
use Rattle.contexts.specs.declared.parts.Context.{Context}
use Rattle.contexts.specs.declared.parts.Contexts.{Contexts}
use Rattle.contexts.specs.declared.parts.ExchangeView.{ExchangeView}
use Rattle.contexts.specs.declared.parts.Own.{Own}
use Rattle.contexts.specs.declared.parts.StageBuffer as parts
use Rattle.contexts.specs.declared.parts.VmContexts.{VmContexts}
use Rattle.exchange.specs.Maps.{in_view}
use Rattle.filter_chain.specs.Chains.{without_held, unless_over, continued_at, let_through_at, paused_at, without_buffers, bytes_at, limit, ask_item, ask_stage, asked_at}
use Rattle.filter_chain.specs.Items.{holds_bytes}
use Rattle.filter_chain.specs.declared.item.Asking.{Asking}
use Rattle.filter_chain.specs.declared.item.Asking.TheVariants.{Over}
use Rattle.filter_chain.specs.declared.item.ChainItem.{ChainItem}
use Rattle.filter_chain.specs.declared.item.ChainItem.TheVariants.{Head, Piece, Trailers}
use Rattle.filter_chain.specs.declared.item.PassOutcome.{PassOutcome}
use Rattle.filter_chain.specs.declared.item.PassOutcome.TheVariants as passed
use Rattle.filter_chain.specs.declared.stage.Stage.{Stage}
use Rattle.law_vms.specs.OwnChanges.{ChangesItsOwn, outline, outlines}
use Rattle.worker_model.specs.Calls as callouts
use Rattle.worker_model.specs.Rooms.{count_calls}

pub pick : {A : Type 0} (P : A → Type 0) (b : Bool) (x y : A) → P x → P y → P (if b then x else y)
pick P true x y here there = here
pick P false x y here there = there

-- the same plug-ins, and of each VM the same contexts by their outlines, and the same last id
pub record SameIds (h k : Contexts) : Type 0 where
  pub outlined : (vm : ℕ) → outlines k vm ≡ outlines h vm
  pub last : (vm : ℕ) → (vm_in k vm).last ≡ (vm_in h vm).last
  pub count : length k.vms ≡ length h.vms
  pub plugins : k.plugins ≡ h.plugins

pub same_itself : (h : Contexts) → SameIds h h
same_itself h = record { outlined = λ vm. refl; last = λ vm. refl; count = refl; plugins = refl }

pub same_then : (h k l : Contexts) → SameIds h k → SameIds k l → SameIds h l
same_then h k l a b = record { outlined = λ vm. b.outlined vm ∙ a.outlined vm; last = λ vm. b.last vm ∙ a.last vm; count = b.count ∙ a.count; plugins = b.plugins ∙ a.plugins }

-- what a callback changes
pub same_own : (vm : ℕ) (h k : Contexts) → ChangesItsOwn vm h k → SameIds h k
same_own vm h k c = record {
  outlined = λ w. ⊎_elim (λ (same : w ≡ vm). subst (λ (v : ℕ). outlines k v ≡ outlines h v) (sym same) c.outlined) (λ (apart : w ≡ vm → ⊥). ap (λ (v : VmContexts). map outline v.contexts) (c.others w apart)) (cases_eq w vm);
  last = λ w. ⊎_elim (λ (same : w ≡ vm). subst (λ (v : ℕ). (vm_in k v).last ≡ (vm_in h v).last) (sym same) c.last) (λ (apart : w ≡ vm → ⊥). ap (λ (v : VmContexts). v.last) (c.others w apart)) (cases_eq w vm);
  count = c.count;
  plugins = c.plugins;
}

-- ---- the contexts of one VM change

-- one VM among others: it is the new one, or as before
pub set_vm : {A : Type 0} (f : VmContexts → A) (vms : List VmContexts) (vm w : ℕ) (v : VmContexts) → f v ≡ f (slice_index_or vms vm no_vm) → f (slice_index_or (slice_set vms vm v) w no_vm) ≡ f (slice_index_or vms w no_vm)
set_vm f [] vm w v is = refl
set_vm f (x ∷ vms) zero zero v is = is
set_vm f (x ∷ vms) zero (suc w) v is = refl
set_vm f (x ∷ vms) (suc vm) zero v is = refl
set_vm f (x ∷ vms) (suc vm) (suc w) v is = set_vm f vms vm w v is

outlines_by : {B : Type 0} (k : ℕ) (f : B → Context → Context) → ((b : B) (c : Context) → outline (f b c) ≡ outline c) → (o : Option B) (cs : List Context)
    → map outline (changed_by context_no k f o cs) ≡ map outline cs
outlines_by k f same None cs = refl
outlines_by k f same (Some b) cs = kept context_no k (f b) (λ c. ap (λ (y : ℕ × ℕ × ℕ × Option ℕ). y.0) (same b c)) outline (same b) cs

outlines_after : (s : Changes) (e : ℕ) (o : Option Context) (cs : List Context) → map outline (contexts_after s e o cs) ≡ map outline cs
outlines_after s e None cs = refl
outlines_after s e (Some c) cs =
    outlines_by c.root with_tick (λ t x. refl) s.tick (changed_by context_no e with_own s.own cs) ∙ outlines_by e with_own (λ t x. refl) s.own cs

-- what a call puts
pub same_put : (s : Changes) (vm e : ℕ) (h : Contexts) → SameIds h (put_of s vm e h)
same_put s vm e h = record {
  outlined = λ w. set_vm (λ (v : VmContexts). map outline v.contexts) h.vms vm w (vm_after s e (context_in h vm e) (vm_in h vm)) (outlines_after s e (context_in h vm e) (vm_in h vm).contexts);
  last = λ w. set_vm (λ (v : VmContexts). v.last) h.vms vm w (vm_after s e (context_in h vm e) (vm_in h vm)) refl;
  count = length-set h.vms vm (vm_after s e (context_in h vm e) (vm_in h vm));
  plugins = refl;
}

pub same_view : (change : ExchangeView → ExchangeView) (place : ℕ) (o : Option ExchangeView) (h : Contexts) → SameIds h (in_view change place o h)
same_view change place None h = same_itself h
same_view change place (Some v) h = record { outlined = λ vm. refl; last = λ vm. refl; count = refl; plugins = refl }

-- what a context has of a callout's answer
pub same_answer : (a : Option CallAnswer) (o : Option Own) (vm e : ℕ) (h : Contexts) → SameIds h (callouts.with_call_answer a o vm e h)
same_answer a None vm e h = same_itself h
same_answer a (Some o) vm e h = same_put (record no_changes { own = Some (record o { answer = a }) }) vm e h

-- how many callouts are under way, and the last id drawn
pub same_calls : (under_way last : ℕ) (h : Contexts) → SameIds h (count_calls under_way last h)
same_calls under_way last h = record { outlined = λ vm. refl; last = λ vm. refl; count = refl; plugins = refl }

-- ---- what stages hold

stage_same : (f : parts.StageBuffer → parts.StageBuffer) (h : Contexts) (vm e : ℕ) (r : Bool) (o : Option Own) → SameIds h (stage_after f h vm e r o)
stage_same f h vm e r None = same_itself h
stage_same f h vm e r (Some o) = same_put (record no_changes { own = Some (with_stage r (f (stage_in r o)) o) }) vm e h

pub same_changed : (f : parts.StageBuffer → parts.StageBuffer) (h : Contexts) (vm e : ℕ) (r : Bool) → SameIds h (stage_changed f h vm e r)
same_changed f h vm e r = stage_same f h vm e r (own_at h vm e)

pub same_cleared : (ss : List Stage) (h : Contexts) → SameIds h (without_buffers h ss)
same_cleared [] h = same_itself h
same_cleared (s ∷ ss) h =
    same_then h (without_buffer h s.vm s.context s.response) (without_buffers (without_buffer h s.vm s.context s.response) ss) (same_changed let_go h s.vm s.context s.response)
    (same_cleared ss (without_buffer h s.vm s.context s.response))

same_without : (h : Contexts) (s : Stage) → SameIds h (without_held h s)
same_without h s = pick (SameIds h) (holds_bytes s.held) (without_buffer h s.vm s.context s.response) h (same_changed let_go h s.vm s.context s.response) (same_itself h)

abbrev pub SameThird : {A B : Type 0} → Contexts → A × B × Contexts → Type 0
SameThird h (p, stages, k) = SameIds h k

same_unless : (before after : Contexts) (r : PassOutcome × List Stage) → SameIds before after → SameThird before (unless_over before after r)
same_unless before after (passed.Over, stages) two = same_itself before
same_unless before after (passed.Left items, stages) two = two

pub same_continued : (h : Contexts) (k : ℕ) (stages : List Stage) (o : Option Stage) → SameThird h (continued_at h k stages o)
same_continued h k stages None = same_itself h
same_continued h k stages (Some s) = same_unless h (without_held h s) _ (same_without h s)

pub same_let_through : (h : Contexts) (k : ℕ) (stages : List Stage) (o : Option Stage) → SameThird h (let_through_at h k stages o)
same_let_through h k stages None = same_itself h
same_let_through h k stages (Some s) = same_unless h (without_held h s) _ (same_without h s)

pub same_paused : (h : Contexts) (o : Option Stage) → SameIds h (paused_at h o)
same_paused h None = same_itself h
same_paused h (Some s) = same_changed returned h s.vm s.context s.response

abbrev SameOne : Contexts → Asking × Stage × Contexts → Type 0
SameOne h (a, s, k) = SameIds h k

same_item : (h : Contexts) (k : ℕ) (s : Stage) (waiting : List ChainItem) → SameOne h (ask_item h k s waiting)
same_item h k s [] = same_itself h
same_item h k s (Head end ∷ more) = same_itself h
same_item h k s (Piece bytes end ∷ more) =
    pick (SameOne h) (nat_le (length (bytes_at h s) + length bytes) limit) _ (Over k, s, h) (same_changed (with_bytes bytes end) h s.vm s.context s.response) (same_itself h)
same_item h k s (Trailers ∷ more) = same_itself h

same_asked_of : (h : Contexts) (k : ℕ) (stages : List Stage) (o : Option Stage) → SameThird h (ask_stage h k stages o)
same_asked_of h k stages None = same_itself h
same_asked_of h k stages (Some s) = same_item h k s s.waiting

pub same_asked : (h : Contexts) (stages : List Stage) (k : ℕ) → SameThird h (asked_at h stages k)
same_asked h stages zero = same_itself h
same_asked h stages (suc k) = same_asked_of h k stages (slice_get stages k)
