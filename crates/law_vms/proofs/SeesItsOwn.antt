-- What a callback does depends on nothing of other VMs.
use Rattle.std.proofs.Common.{◌≡◌, ℕ, ◌<◌, Bool, true, false, length, Option, None, Some, refl, ap, ◌∙◌, subst, sym, nat_lt, nat_le, ◌&&◌, if◌then◌else◌, List, [], ◌∷◌, map, suc, ◌≢◌, nat_eq, arith, slice_index_or}
use Rattle.std.proofs.lemmas.Bool.{ltb-true, eqb-true, eqb-false}
use Rattle.std.specs.Option.{option_map}
use Rattle.std.specs.Prelude.{slice_get}
use Rattle.contexts.specs.Reached.{vm_in, no_vm}
use Rattle.contexts.specs.declared.parts.ExchangeEntry.{ExchangeEntry}
use Rattle.contexts.specs.declared.parts.VmContexts.{VmContexts}
use Rattle.contexts.specs.declared.parts.Contexts.{Contexts}
use Rattle.filter_host.specs.Called.{called_back}
use Rattle.filter_host.specs.declared.host.CallbackEnd.TheVariants as call_end
use Rattle.filter_host.specs.declared.host.Callback.{Callback}
use Rattle.store_model.specs.Program.{done, bind}
use Rattle.vm_host.specs.Slots.{Came, silent, calling_live, calling_slot, is_at_home, slot_in, with_live, calling}
use Rattle.vm_host.specs.Vms.{VmAt}
use Rattle.vm_host.specs.declared.slots.Slot.{Slot}
use Rattle.vm_host.specs.declared.slots.Vms.{Vms}
use Rattle.law_vms.proofs.Apart.{with_own}
use Rattle.law_vms.proofs.Ends.{all_weaker}
use Rattle.law_vms.proofs.Looking.{same_count}
use Rattle.law_vms.proofs.OwnChanges.{both_left, change_their_own}
use Rattle.law_vms.proofs.Stepping.{CameSame, step_then, live_same}
use Rattle.law_vms.specs.OwnChanges.{IsPlaced, ArePlaced, ChangesItsOwn}
use Rattle.law_vms.specs.SeesItsOwn.{InStep, LookTheSame, ComeToTheSame, ShareNone, but_for_those, CallbacksSeeTheirOwn, CallbacksAreUnseen}

silent_same : (vm : ℕ) (o : Option VmAt) (h k : Contexts) → LookTheSame vm h k → CameSame vm (silent o h) (silent o k)
silent_same vm o h k same = record { end = refl; lines = refl; live = refl; contexts = same }

home_if : (b : Bool) (most : ℕ) (v : VmAt) (name : Callback) (context first second now : ℕ) (h k : Contexts) → is_at_home most v.calls.place h ≡ b → LookTheSame v.calls.place h k
    → InStep (CameSame v.calls.place) (if b then calling_live v name context first second now h else done (silent (Some v) h)) (if b then calling_live v name context first second now k else done (silent (Some v) k))
home_if true most v name context first second now h k home same =
    let here : v.calls.place < length h.vms = ltb-true v.calls.place (length h.vms) (both_left (nat_lt v.calls.place (length h.vms)) (nat_le (length h.vms) most) home) in
    live_same v.calls v name context first second now h k refl
    (record { lines = refl; contexts = same; here = here; there = subst (λ n. v.calls.place < n) (same_count v.calls.place h k same) here })
home_if false most v name context first second now h k home same = silent_same v.calls.place (Some v) h k same

home_same : (most : ℕ) (v : VmAt) (name : Callback) (context first second now : ℕ) (h k : Contexts) → LookTheSame v.calls.place h k
    → InStep (CameSame v.calls.place) (calling_slot most (Some v) name context first second now h) (calling_slot most (Some v) name context first second now k)
unfolding calling_slot
home_same most v name context first second now h k same =
    subst (λ b. InStep (CameSame v.calls.place) (calling_slot most (Some v) name context first second now h) (if b then calling_live v name context first second now k else done (silent (Some v) k)))
    (ap (λ n. nat_lt v.calls.place n && nat_le n most) (same_count v.calls.place h k same))
    (home_if (is_at_home most v.calls.place h) most v name context first second now h k refl same)

slot_same : (most vm : ℕ) (o : Option VmAt) (name : Callback) (context first second now : ℕ) (h k : Contexts) → IsPlaced vm o → LookTheSame vm h k
    → InStep (CameSame vm) (calling_slot most o name context first second now h) (calling_slot most o name context first second now k)
unfolding calling_slot
slot_same most vm None name context first second now h k placed same = silent_same vm None h k same
slot_same most vm (Some v) name context first second now h k placed same =
    subst (λ n. InStep (CameSame n) (calling_slot most (Some v) name context first second now h) (calling_slot most (Some v) name context first second now k)) placed
    (home_same most v name context first second now h k (subst (λ n. LookTheSame n h k) (sym placed) same))

ends_same : (v w : Vms) (vm : ℕ) → vm < length v.slots → vm < length w.slots → slot_in v vm ≡ slot_in w vm → (c d : Came) → CameSame vm c d
    → ComeToTheSame vm (called_back c.end c.lines (with_live vm c.live v) c.contexts) (called_back d.end d.lines (with_live vm d.live w) d.contexts)
ends_same v w vm here there slots c d both = record {
  end = both.end;
  lines = both.lines;
  slot = with_own vm c.live v here ∙ (λ i. record (slots i) { live = both.live i }) ∙ sym (with_own vm d.live w there);
  contexts = both.contexts;
}

called_if : (b : Bool) (v w : Vms) (vm : ℕ) (name : Callback) (context first second now : ℕ) (h k : Contexts) → nat_lt vm (length v.slots) ≡ b → ArePlaced v
    → length v.slots ≡ length w.slots → slot_in v vm ≡ slot_in w vm → LookTheSame vm h k
    → InStep (ComeToTheSame vm)
    (if b then bind (calling_slot (length v.slots) (slot_in v vm).live name context first second now h) (λ c. done (called_back c.end c.lines (with_live vm c.live v) c.contexts)) else done (called_back (call_end.Returned None) [] v h))
    (if b then bind (calling_slot (length w.slots) (slot_in w vm).live name context first second now k) (λ c. done (called_back c.end c.lines (with_live vm c.live w) c.contexts)) else done (called_back (call_end.Returned None) [] w k))
called_if true v w vm name context first second now h k is placed many slots same =
    let here : vm < length v.slots = ltb-true vm (length v.slots) is in
    step_then (CameSame vm) (ComeToTheSame vm)
    (calling_slot (length v.slots) (slot_in v vm).live name context first second now h) (calling_slot (length w.slots) (slot_in w vm).live name context first second now k)
    (λ c. done (called_back c.end c.lines (with_live vm c.live v) c.contexts)) (λ c. done (called_back c.end c.lines (with_live vm c.live w) c.contexts))
    (subst (λ n. InStep (CameSame vm) (calling_slot (length v.slots) (slot_in v vm).live name context first second now h) (calling_slot n (slot_in w vm).live name context first second now k)) many
    (subst (λ (x : Slot). InStep (CameSame vm) (calling_slot (length v.slots) (slot_in v vm).live name context first second now h) (calling_slot (length v.slots) x.live name context first second now k)) slots
    (slot_same (length v.slots) vm (slot_in v vm).live name context first second now h k (placed vm) same)))
    (λ c d both. ends_same v w vm here (subst (λ n. vm < n) many here) slots c d both)
called_if false v w vm name context first second now h k is placed many slots same = record { end = refl; lines = refl; slot = slots; contexts = same }

pub see_their_own : CallbacksSeeTheirOwn
unfolding calling
see_their_own v w vm name context first second now h k placed many slots same =
    subst (λ b. InStep (ComeToTheSame vm) (calling v vm name context first second now h)
    (if b then bind (calling_slot (length w.slots) (slot_in w vm).live name context first second now k) (λ c. done (called_back c.end c.lines (with_live vm c.live w) c.contexts)) else done (called_back (call_end.Returned None) [] w k)))
    (ap (nat_lt vm) many)
    (called_if (nat_lt vm (length v.slots)) v w vm name context first second now h k refl placed many slots same)

-- ---- what the others see of it

names_by : (xs ys : List VmContexts) → length xs ≡ length ys → ((n : ℕ) → (slice_index_or xs n no_vm).name ≡ (slice_index_or ys n no_vm).name)
    → map (λ (w : VmContexts). w.name) xs ≡ map (λ (w : VmContexts). w.name) ys
names_by [] [] many same = refl
names_by [] (y ∷ ys) many same = absurd (omega (arith, many))
names_by (x ∷ xs) [] many same = absurd (omega (arith, many))
names_by (x ∷ xs) (y ∷ ys) many same = λ i. same 0 i ∷ names_by xs ys (omega (arith, many)) (λ n. same (suc n)) i

name_at : (b : Bool) (vm n : ℕ) (h k : Contexts) → nat_eq n vm ≡ b → ChangesItsOwn vm h k → (vm_in h n).name ≡ (vm_in k n).name
name_at true vm n h k is own = subst (λ j. (vm_in h j).name ≡ (vm_in k j).name) (sym (eqb-true n vm is)) (sym own.name)
name_at false vm n h k is own = sym (ap (λ (w : VmContexts). w.name) (own.others n (eqb-false n vm is)))

unseen : (vm other : ℕ) (h k : Contexts) → other ≢ vm → ShareNone h vm other → ChangesItsOwn vm h k → LookTheSame other h (but_for_those h k)
unseen vm other h k apart none own = record {
  own = sym (own.others other apart);
  plugins = λ e c is. ap (λ ps. slice_get ps c.plugin) (sym own.plugins);
  views = λ e n c is of. ap (option_map (λ (x : ExchangeEntry). x.view)) (sym (own.exchanges n (none e n c is of)));
  names = names_by h.vms k.vms (sym own.count) (λ n. name_at (nat_eq n vm) vm n h k refl own);
  level = sym own.level;
  effects = refl;
  random_key = sym own.random_key;
  random_place = refl;
  calls = sym own.calls;
  is_tcp = sym own.is_tcp;
}

pub are_unseen : CallbacksAreUnseen
are_unseen v vm other name context first second now h placed apart none =
    all_weaker (λ c. ChangesItsOwn vm h c.contexts) (λ c. LookTheSame other h (but_for_those h c.contexts)) (calling v vm name context first second now h)
    (change_their_own v vm name context first second now h placed) (λ c own. unseen vm other h c.contexts apart none own)
