-- Where nothing of a VM is run.
use Rattle.std.proofs.Common.{◌≡◌, ℕ, ◌<◌, Bool, true, false, length, Option, None, Some, refl, ap, ◌∙◌, subst, sym, nat_lt, nat_eq, if◌then◌else◌, List, [], is_some}
use Rattle.std.proofs.lemmas.Bool.{ltb-true, eqb-true, eqb-false, false≢true}
use Rattle.std.proofs.lemmas.List.{set-get_or}
use Rattle.std.proofs.lemmas.Option.{none-some}
use Rattle.contexts.specs.declared.parts.Contexts.{Contexts}
use Rattle.filter_host.specs.Called.{called_back}
use Rattle.filter_host.specs.declared.host.CallbackEnd.TheVariants as call_end
use Rattle.filter_host.specs.declared.host.Callback.{Callback}
use Rattle.store_model.specs.Program.{Program, done, bind}
use Rattle.vm_host.specs.declared.roles.Role.{Role}
use Rattle.vm_host.specs.declared.slots.Slot.{Slot}
use Rattle.vm_host.specs.declared.slots.Vms.{Vms}
use Rattle.vm_host.specs.HostStates.{host_state}
use Rattle.vm_host.specs.RoleTypes.{function_for}
use Rattle.vm_host.specs.Slots.{Came, silent, came_of, by_role, role_of, exports_role, calling_live, calling_slot, is_at_home, slot_in, no_slot, with_live, calling}
use Rattle.vm_host.specs.Vms.{VmAt, calling_if}
use Rattle.law_vms.proofs.Apart.{Exports, CameWell, slot_well, with_other, with_own}
use Rattle.law_vms.proofs.Ends.{all_then}
use Rattle.law_vms.specs.Apart.{AllEnds}
use Rattle.law_vms.specs.Silent.{IsSilent, DeadVmsAreSilent, IsTied, AreTied, MissingCallbacksAreSilent, TiesBegin, TiesStay}

-- the machine that stands at a place, put there once more
as_it_stands : (v : Vms) (vm : ℕ) → with_live vm (slot_in v vm).live v ≡ v
as_it_stands v vm = ap (λ (slots : List Slot). record v { slots = slots }) (set-get_or v.slots vm no_slot)

-- where the slot is silent, so is the callback
by_slot : (b : Bool) (v : Vms) (vm : ℕ) (p : Program Came) (h : Contexts) → p ≡ done (silent (slot_in v vm).live h)
    → IsSilent v h (if b then bind p (λ c. done (called_back c.end c.lines (with_live vm c.live v) c.contexts)) else done (called_back (call_end.Returned None) [] v h))
by_slot true v vm p h is =
    ap (λ q. bind q (λ c. done (called_back c.end c.lines (with_live vm c.live v) c.contexts))) is
    ∙ ap (λ w. done (called_back (call_end.Returned None) [] w h)) (as_it_stands v vm)
by_slot false v vm p h is = refl

no_machine : (most : ℕ) (o : Option VmAt) (name : Callback) (context first second now : ℕ) (h : Contexts) → o ≡ None → calling_slot most o name context first second now h ≡ done (silent o h)
unfolding calling_slot
no_machine most None name context first second now h is = refl
no_machine most (Some v) name context first second now h is = absurd (none-some v (sym is))

pub dead_are_silent : DeadVmsAreSilent
unfolding calling
dead_are_silent v vm name context first second now h is =
    by_slot (nat_lt vm (length v.slots)) v vm (calling_slot (length v.slots) (slot_in v vm).live name context first second now h) h
    (no_machine (length v.slots) (slot_in v vm).live name context first second now h is)

-- ---- what is not exported

none_of : {A : Type 0} (o : Option A) → is_some o ≡ false → o ≡ None
none_of None is = refl
none_of (Some a) is = absurd (false≢true (sym is))

unexported : (live : VmAt) (name : Callback) (role : Role) (context first second now : ℕ) (h : Contexts) → role_of name ≡ Some role → function_for live.functions role ≡ None
    → calling_live live name context first second now h ≡ done (silent (Some live) h)
unfolding calling_live
unexported live name role context first second now h is none =
    ap (λ o. bind (by_role o live now context first second (host_state h [])) (λ r. done (came_of r))) is
    ∙ ap (λ f. bind (calling_if live now f role context first second (host_state h [])) (λ r. done (came_of r))) none

home_or_not : (b : Bool) (live : VmAt) (p : Program Came) (h : Contexts) → p ≡ done (silent (Some live) h) → (if b then p else done (silent (Some live) h)) ≡ done (silent (Some live) h)
home_or_not true live p h is = is
home_or_not false live p h is = refl

slot_silent : (most : ℕ) (o : Option VmAt) (slot : Slot) (name : Callback) (role : Role) (context first second now : ℕ) (h : Contexts)
    → IsTied slot o → role_of name ≡ Some role → exports_role slot.functions (role_of name) ≡ false
    → calling_slot most o name context first second now h ≡ done (silent o h)
unfolding calling_slot
slot_silent most None slot name role context first second now h tied is missing = refl
slot_silent most (Some live) slot name role context first second now h tied is missing =
    home_or_not (is_at_home most live.calls.place h) live (calling_live live name context first second now h) h
    (unexported live name role context first second now h is
    (ap (λ fs. function_for fs role) tied ∙ none_of (function_for slot.functions role) (ap (exports_role slot.functions) (sym is) ∙ missing)))

pub missing_are_silent : MissingCallbacksAreSilent
unfolding calling
missing_are_silent v vm name role context first second now h tied is missing =
    by_slot (nat_lt vm (length v.slots)) v vm (calling_slot (length v.slots) (slot_in v vm).live name context first second now h) h
    (slot_silent (length v.slots) (slot_in v vm).live (slot_in v vm) name role context first second now h (tied vm) is missing)

pub ties_begin : TiesBegin
ties_begin = record { first = λ place m pages fuel. refl; none = tt }

-- ---- what is exported stays

tied_slot : (slot : Slot) (o : Option VmAt) → Exports slot.functions o → IsTied (record slot { live = o }) o
tied_slot slot None same = tt
tied_slot slot (Some live) same = same

exports_tied : (slot : Slot) (o : Option VmAt) → IsTied slot o → Exports slot.functions o
exports_tied slot None tied = tt
exports_tied slot (Some live) tied = tied

abbrev HasTie : Slot → Type 0
HasTie slot = IsTied slot slot.live

tie_at : (b : Bool) (v : Vms) (vm at : ℕ) (live : Option VmAt) → nat_eq at vm ≡ b → vm < length v.slots → AreTied v → Exports (slot_in v vm).functions live → HasTie (slot_in (with_live vm live v) at)
tie_at true v vm at live is there tied same =
    subst (λ n. HasTie (slot_in (with_live vm live v) n)) (sym (eqb-true at vm is)) (subst HasTie (sym (with_own vm live v there)) (tied_slot (slot_in v vm) live same))
tie_at false v vm at live is there tied same = subst HasTie (sym (with_other vm at live v (eqb-false at vm is))) (tied at)

stays_if : (b : Bool) (v : Vms) (vm : ℕ) (name : Callback) (context first second now : ℕ) (h : Contexts) → nat_lt vm (length v.slots) ≡ b → AreTied v
    → AllEnds (λ c. AreTied c.host) (if b then bind (calling_slot (length v.slots) (slot_in v vm).live name context first second now h) (λ c. done (called_back c.end c.lines (with_live vm c.live v) c.contexts)) else done (called_back (call_end.Returned None) [] v h))
stays_if true v vm name context first second now h is tied =
    all_then (CameWell (slot_in v vm).functions) (λ c. AreTied c.host) (calling_slot (length v.slots) (slot_in v vm).live name context first second now h) (λ c. done (called_back c.end c.lines (with_live vm c.live v) c.contexts))
    (slot_well (slot_in v vm).functions (length v.slots) (slot_in v vm).live name context first second now h (exports_tied (slot_in v vm) (slot_in v vm).live (tied vm)))
    (λ c well at. tie_at (nat_eq at vm) v vm at c.live refl (ltb-true vm (length v.slots) is) tied well.1)
stays_if false v vm name context first second now h is tied = tied

pub ties_stay : TiesStay
unfolding calling
ties_stay v vm name context first second now h tied = stays_if (nat_lt vm (length v.slots)) v vm name context first second now h refl tied
