-- Why nothing is held after the end of an exchange.
use Rattle.std.proofs.Common.{◌≡◌, ◌<◌, ◌≤◌, ℕ, zero, suc, Bool, true, false, not, ◌&&◌, List, [], ◌∷◌, length, ap, ◌∙◌, sym, refl, subst, ⊎_elim, arith}
use Rattle.std.specs.Prelude.{Option, None, Some, slice_get, slice_set, slice_index_or, if◌then◌else◌}
use Rattle.std.specs.Option.{option_map}
use Rattle.std.proofs.lemmas.Bool.{cases_eq, cases_lt}
use Rattle.contexts.specs.declared.parts.Context.{Context}
use Rattle.contexts.specs.declared.parts.Contexts.{Contexts}
use Rattle.contexts.specs.declared.parts.Own.{Own}
use Rattle.contexts.specs.declared.parts.VmContexts.{VmContexts}
use Rattle.contexts.specs.Creating.{no_stage, end_exchange, has_ended, is_referred}
use Rattle.contexts.specs.Keyed.{first_of_number}
use Rattle.contexts.specs.Reached.{no_changes, no_vm, vm_in, context_no, context_in, exchange_at, reach_by, fitted}
use Rattle.contexts.specs.Lending.{stage_in, with_stage, own_put_of}
use Rattle.contexts.specs.Stages.{own_at, stage_after, let_go, without_buffer}
use Rattle.contexts.proofs.Isolation.{put_is_seen, all_else_stays}
use Rattle.exchange.specs.declared.types.Exchange.{Exchange}
use Rattle.filter_chain.specs.declared.stage.Stage.{Stage}
use Rattle.filter_chain.specs.Chains.{without_buffers}
use Rattle.worker_model.specs.Room.{Room}
use Rattle.worker_model.specs.declared.types.Line.{Line}
use Rattle.worker_model.specs.Moves.{ended_in, ended_back, ended_at}
use Rattle.worker_model.specs.Steps.{end_with}
use Rattle.law_turns.specs.Ended.{HoldsNothing, HoldNothing, NothingIsHeld, NothingIsHeldBehindAnEnd}

-- ---- what a context has for itself, once it was written, and what another has

own_mapped : (h : Contexts) (v : VmContexts) (c : Option Context) → (reach_by h v c).own ≡ option_map (λ (b : Context). b.own) c
own_mapped h v None = refl
own_mapped h v (Some b) = refl

own_after : (h : Contexts) (vm e : ℕ) (o w : Own) → vm < length h.vms → own_at h vm e ≡ Some o → own_at (own_put_of h vm e w) vm e ≡ Some w
own_after h vm e o w within is =
    ap (λ s. s.reach.own) (put_is_seen (record no_changes { own = Some w }) vm e h within) ∙ ap (λ p. fitted p (Some w)) is

own_other : (h : Contexts) (vm e wm d : ℕ) (w : Own) → vm < length h.vms → (wm ≡ vm → d ≡ e → ⊥) → own_at (own_put_of h vm e w) wm d ≡ own_at h wm d
own_other h vm e wm d w within apart =
    let k : Contexts = own_put_of h vm e w in
    let stays = all_else_stays (record no_changes { own = Some w }) vm e h within in
    own_mapped k (vm_in k wm) (context_in k wm d)
    ∙ ⊎_elim
    (λ (same : wm ≡ vm).
    subst (λ m. option_map (λ (b : Context). b.own) (context_in k m d) ≡ option_map (λ (b : Context). b.own) (context_in h m d)) (sym same) (stays.owns d (apart same)))
    (λ (other : wm ≡ vm → ⊥). ap (λ (v : VmContexts). option_map (λ (b : Context). b.own) (first_of_number context_no d v.contexts)) (stays.vms wm other))
    (cases_eq wm vm)
    ∙ sym (own_mapped h (vm_in h wm) (context_in h wm d))

own_by_vms : (b c : Contexts) (vm e : ℕ) → c.vms ≡ b.vms → own_at c vm e ≡ own_at b vm e
own_by_vms b c vm e same =
    own_mapped c (vm_in c vm) (context_in c vm e)
    ∙ (ap (λ (vms : List VmContexts). option_map (λ (k : Context). k.own) (first_of_number context_no e (slice_index_or vms vm no_vm).contexts)) same
    ∙ sym (own_mapped b (vm_in b vm) (context_in b vm e)))

index_past : (vms : List VmContexts) (vm : ℕ) → length vms ≤ vm → slice_index_or vms vm no_vm ≡ no_vm
index_past [] vm past = refl
index_past (v ∷ vms) zero past = absurd (omega arith)
index_past (v ∷ vms) (suc vm) past = index_past vms vm (omega arith)

there_within : (h : Contexts) (vm e : ℕ) (o : Own) → own_at h vm e ≡ Some o → vm < length h.vms
there_within h vm e o is =
    ⊎_elim (λ (less : vm < length h.vms). less)
    (λ (past : length h.vms ≤ vm).
    let none : own_at h vm e ≡ None
    = own_mapped h (vm_in h vm) (context_in h vm e) ∙ ap (λ (v : VmContexts). option_map (λ (k : Context). k.own) (first_of_number context_no e v.contexts)) (index_past h.vms vm past) in
    let both : None ≡ Some o = sym none ∙ is in
    absurd (cc both))
    (cases_lt vm (length h.vms))

-- ---- a stage is let go of

gone : (r : Bool) (o : Own) → stage_in r (with_stage r no_stage o) ≡ no_stage
gone true o = refl
gone false o = refl

still_gone : (r q : Bool) (o : Own) → stage_in q o ≡ no_stage → stage_in q (with_stage r no_stage o) ≡ no_stage
still_gone true true o is = refl
still_gone true false o is = is
still_gone false true o is = is
still_gone false false o is = refl

some_same : (a b : Own) → Some a ≡ Some b → a ≡ b
some_same a b same = cc

gone_at : (h : Contexts) (s : Stage) (p : Option Own) → own_at h s.vm s.context ≡ p → HoldsNothing (stage_after let_go h s.vm s.context s.response p) s
gone_at h s None is o own = let never : None ≡ Some o = sym is ∙ own in absurd (cc never)
gone_at h s (Some p) is o own =
    let w : Own = with_stage s.response no_stage p in
    let same : w ≡ o = some_same w o (sym (own_after h s.vm s.context p w (there_within h s.vm s.context p is) is) ∙ own) in
    subst (λ (k : Own). stage_in s.response k ≡ no_stage) same (gone s.response p)

gone_here : (h : Contexts) (s : Stage) → HoldsNothing (without_buffer h s.vm s.context s.response) s
gone_here h s = gone_at h s (own_at h s.vm s.context) refl

stays_at : (h : Contexts) (t s : Stage) (p : Option Own) → own_at h t.vm t.context ≡ p → HoldsNothing h s → HoldsNothing (stage_after let_go h t.vm t.context t.response p) s
stays_at h t s None is nothing = nothing
stays_at h t s (Some p) is nothing = λ o own.
    let w : Own = with_stage t.response no_stage p in
    let within : t.vm < length h.vms = there_within h t.vm t.context p is in
    ⊎_elim
    (λ (one : s.vm ≡ t.vm). ⊎_elim
    (λ (two : s.context ≡ t.context).
    let was : own_at h s.vm s.context ≡ Some p = (λ i. own_at h (one i) (two i)) ∙ is in
    let now : own_at (own_put_of h t.vm t.context w) s.vm s.context ≡ Some w
    = (λ i. own_at (own_put_of h t.vm t.context w) (one i) (two i)) ∙ own_after h t.vm t.context p w within is in
    subst (λ (k : Own). stage_in s.response k ≡ no_stage) (some_same w o (sym now ∙ own)) (still_gone t.response s.response p (nothing p was)))
    (λ (two : s.context ≡ t.context → ⊥). nothing o (sym (own_other h t.vm t.context s.vm s.context w within (λ _ same. two same)) ∙ own))
    (cases_eq s.context t.context))
    (λ (one : s.vm ≡ t.vm → ⊥). nothing o (sym (own_other h t.vm t.context s.vm s.context w within (λ same _. one same)) ∙ own))
    (cases_eq s.vm t.vm)

stays : (h : Contexts) (t s : Stage) → HoldsNothing h s → HoldsNothing (without_buffer h t.vm t.context t.response) s
stays h t s nothing = stays_at h t s (own_at h t.vm t.context) refl nothing

-- ---- all stages are

one_cleared : (h : Contexts) (ss : List Stage) (s : Stage) → HoldsNothing h s → HoldsNothing (without_buffers h ss) s
one_cleared h [] s nothing = nothing
one_cleared h (t ∷ ss) s nothing = one_cleared (without_buffer h t.vm t.context t.response) ss s (stays h t s nothing)

others_cleared : (h : Contexts) (ss ts : List Stage) → HoldNothing h ts → HoldNothing (without_buffers h ss) ts
others_cleared h ss [] nothing = tt
others_cleared h ss (t ∷ ts) nothing = (one_cleared h ss t nothing.0, others_cleared h ss ts nothing.1)

all_cleared : (h : Contexts) (ss : List Stage) → HoldNothing (without_buffers h ss) ss
all_cleared h [] = tt
all_cleared h (s ∷ ss) =
    let one : Contexts = without_buffer h s.vm s.context s.response in
    (one_cleared one ss s (gone_here h s), all_cleared one ss)

-- ---- the end

nothing_by_vms : (b c : Contexts) (ss : List Stage) → c.vms ≡ b.vms → HoldNothing b ss → HoldNothing c ss
nothing_by_vms b c [] same nothing = tt
nothing_by_vms b c (s ∷ ss) same nothing = ((λ o own. nothing.0 o (sym (own_by_vms b c s.vm s.context same) ∙ own)), nothing_by_vms b c ss same nothing.1)

by_bool : {A : Type 0} (P : A → Type 0) (b : Bool) (a c : A) → (b ≡ true → P a) → (b ≡ false → P c) → P (if b then a else c)
by_bool P true a c here there = here refl
by_bool P false a c here there = there refl

ended_vms : (place : ℕ) (h : Contexts) → (end_exchange place h).vms ≡ h.vms
ended_vms place h =
    by_bool (λ (k : Contexts). k.vms ≡ h.vms) (has_ended (exchange_at (slice_set h.exchanges place _) place) && not (is_referred place h.vms)) _ _ (λ e. refl) (λ e. refl)

pub nothing_held : NothingIsHeldBehindAnEnd
nothing_held place room line x at some =
    subst (λ (o : Option Line). NothingIsHeld (end_with room (ended_at place o room.lines)).hub.contexts x) (sym at)
    (subst (λ (o : Option Exchange). NothingIsHeld (end_with room (ended_back place room.lines (ended_in line o))).hub.contexts x) (sym some)
    (let one : Contexts = without_buffers room.hub.contexts x.request in
    let both : Contexts = without_buffers one x.response in
    record {
      request = nothing_by_vms both (end_exchange x.place both) x.request (ended_vms x.place both) (others_cleared one x.response x.request (all_cleared room.hub.contexts x.request));
      response = nothing_by_vms both (end_exchange x.place both) x.response (ended_vms x.place both) (all_cleared one x.response);
    }))
