-- What a callback leaves of the slots and of the contexts: as many as there were; and a machine that is gone died by it.
use Rattle.std.proofs.Common.{◌≡◌, ◌⊎◌, inl, inr, ⊎_elim, ℕ, Bool, true, false, List, [], length, Option, None, Some, if◌then◌else◌, nat_lt, refl, ap, ◌∙◌, sym, subst}
use Rattle.std.proofs.lemmas.Bool.{ltb-true, cases_eq}
use Rattle.std.proofs.lemmas.List.{get_or-set_same}
use Rattle.std.proofs.lemmas.Option.{none-some}
use Rattle.contexts.specs.declared.parts.Contexts.{Contexts}
use Rattle.filter_host.specs.Called.{Called, called_back}
use Rattle.filter_host.specs.declared.host.CallbackEnd.TheVariants as call_end
use Rattle.filter_host.specs.declared.host.Callback.{Callback}
use Rattle.store_model.specs.Program.{Program, done, ask, measure, bind}
use Rattle.vm_host.specs.Calling.{Returned, returned, run_trapped, run_spent, run_open, calling_back}
use Rattle.vm_host.specs.Dispatching.{dispatching}
use Rattle.vm_host.specs.HostStates.{HostState, host_state}
use Rattle.vm_host.specs.RoleTypes.{function_for, beginner_in, numbers_for, counts_at}
use Rattle.vm_host.specs.Slots.{Came, came_of, silent, end_of, slot_in, no_slot, role_of, by_role, is_at_home, with_live, calling_live, calling_slot, calling}
use Rattle.vm_host.specs.Vms.{VmAt, Ran, ran_as, with_budget, made_effective, running, running_if, begins_then, calling_if}
use Rattle.vm_host.specs.declared.roles.Role.{Role}
use Rattle.vm_host.specs.declared.slots.Slot.{Slot}
use Rattle.vm_host.specs.declared.slots.Vms.{Vms}
use Rattle.law_vms.specs.Apart.{AllEnds, IsApart, CallbacksAreApart}
use Rattle.law_vms.specs.OwnChanges.{ArePlaced, ChangesItsOwn, CallbacksChangeTheirOwn, PlacesStay}
use Rattle.wasm_syntax.specs.declared.types.Value.{Value}
use Rattle.law_runs.proofs.Changing.{pick}
use Rattle.law_runs.proofs.Rooms.{IsDeath}

-- ---- ends of programs

all_bind : {A B : Type 0} (P : A → Type 0) (Q : B → Type 0) (p : Program A) (f : A → Program B) → AllEnds P p → ((a : A) → P a → AllEnds Q (f a)) → AllEnds Q (bind p f)
all_bind P Q (done a) f is next = next a is
all_bind P Q (ask vm call k) f is next = λ r. all_bind P Q (k r) f (is r) next
all_bind P Q (measure vm asked k) f is next = λ r. all_bind P Q (k r) f (is r) next

pub all_given : {A B : Type 0} (Q : B → Type 0) (p : Program A) (g : A → B) → ((a : A) → Q (g a)) → AllEnds Q (bind p (λ a. done (g a)))
all_given Q (done a) g next = next a
all_given Q (ask vm call k) g next = λ r. all_given Q (k r) g next
all_given Q (measure vm asked k) g next = λ r. all_given Q (k r) g next

all_both : {A : Type 0} (P Q R : A → Type 0) (p : Program A) → AllEnds P p → AllEnds Q p → ((a : A) → P a → Q a → R a) → AllEnds R p
all_both P Q R (done a) one two so = so a one two
all_both P Q R (ask vm call k) one two so = λ r. all_both P Q R (k r) (one r) (two r) so
all_both P Q R (measure vm asked k) one two so = λ r. all_both P Q R (k r) (one r) (two r) so

-- ---- a machine that is gone after a run died by it

abbrev Left : Ran → Type 0
Left r = r.vm ≡ None → IsDeath (end_of r.end)

ran_left : (v : VmAt) (s : HostState) (x : Returned HostState) → Left (ran_as v s x)
ran_left v s (returned value g h) none = absurd (none-some (record v { guest = g }) (sym none))
ran_left v s (run_trapped c n h) none = tt
ran_left v s (run_spent n h) none = tt
ran_left v s run_open none = tt

run_left : (v : VmAt) (now f : ℕ) (args : List Value) (s : HostState) → AllEnds Left (running v now f args s)
unfolding running
run_left v now f args s = all_given Left (calling_back (dispatching v.calls now) f args (with_budget v) s) (ran_as v s) (ran_left v s)

run_if_left : (v : VmAt) (now : ℕ) (o : Option ℕ) (args : List Value) (s : HostState) → AllEnds Left (running_if v now o args s)
run_if_left v now None args s = λ none. absurd (none-some v (sym none))
run_if_left v now (Some f) args s = run_left v now f args s

begins_left : (now : ℕ) (o : Option VmAt) (r : Ran) → Left r → AllEnds Left (begins_then now o r)
begins_left now None r left = left
begins_left now (Some v) r left = run_if_left v now (beginner_in v.functions) [] r.state

call_left : (v : VmAt) (now : ℕ) (o : Option ℕ) (r : Role) (context first second : ℕ) (s : HostState) → AllEnds Left (calling_if v now o r context first second s)
call_left v now None r context first second s = λ none. absurd (none-some v (sym none))
call_left v now (Some f) r context first second s = run_left v now f (numbers_for r context first second (counts_at v.calls.place context s.contexts)) (host_state (made_effective v.calls.place context s.contexts) s.lines)

role_left : (o : Option Role) (v : VmAt) (now context first second : ℕ) (s : HostState) → AllEnds Left (by_role o v now context first second s)
role_left None v now context first second s = all_bind Left Left (running_if v now v.start [] s) (λ r. begins_then now r.vm r) (run_if_left v now v.start [] s) (λ r left. begins_left now r.vm r left)
role_left (Some r) v now context first second s = call_left v now (function_for v.functions r) r context first second s

abbrev CameLeft : Came → Type 0
CameLeft c = c.live ≡ None → IsDeath c.end

live_left : (v : VmAt) (name : Callback) (context first second now : ℕ) (h : Contexts) → AllEnds CameLeft (calling_live v name context first second now h)
unfolding calling_live
live_left v name context first second now h =
    all_bind Left CameLeft (by_role (role_of name) v now context first second (host_state h [])) (λ r. done (came_of r)) (role_left (role_of name) v now context first second (host_state h [])) (λ r left. left)

-- it was gone before, or died
abbrev WasOrDied : Option VmAt → Came → Type 0
WasOrDied before c = c.live ≡ None → (before ≡ None) ⊎ IsDeath c.end

slot_left : (most : ℕ) (o : Option VmAt) (name : Callback) (context first second now : ℕ) (h : Contexts) → AllEnds (WasOrDied o) (calling_slot most o name context first second now h)
unfolding calling_slot
slot_left most None name context first second now h = λ none. inl refl
slot_left most (Some v) name context first second now h =
    pick (AllEnds (WasOrDied (Some v))) (is_at_home most v.calls.place h) (calling_live v name context first second now h) (done (silent (Some v) h))
    (all_both CameLeft CameLeft (WasOrDied (Some v)) (calling_live v name context first second now h) (live_left v name context first second now h) (live_left v name context first second now h) (λ c left same none. inr (left none)))
    (λ none. inl none)

-- ---- a callback

-- whose machine is gone after a callback
abbrev Lost : Vms → ℕ → Called Vms → Type 0
Lost v vm c = (slot_in c.host vm).live ≡ None → ((slot_in v vm).live ≡ None) ⊎ IsDeath c.end

lost_if : (b : Bool) (v : Vms) (vm : ℕ) (name : Callback) (context first second now : ℕ) (h : Contexts) → nat_lt vm (length v.slots) ≡ b
    → AllEnds (Lost v vm) (if b then bind (calling_slot (length v.slots) (slot_in v vm).live name context first second now h) (λ c. done (called_back c.end c.lines (with_live vm c.live v) c.contexts)) else done (called_back (call_end.Returned None) [] v h))
lost_if true v vm name context first second now h is =
    all_bind (WasOrDied (slot_in v vm).live) (Lost v vm) (calling_slot (length v.slots) (slot_in v vm).live name context first second now h) (λ c. done (called_back c.end c.lines (with_live vm c.live v) c.contexts))
    (slot_left (length v.slots) (slot_in v vm).live name context first second now h)
    (λ c was none. was (sym (ap (λ (s : Slot). s.live) (get_or-set_same v.slots vm (record (slot_in v vm) { live = c.live }) no_slot (ltb-true vm (length v.slots) is))) ∙ none))
lost_if false v vm name context first second now h is = λ none. inl none

lost : (v : Vms) (vm : ℕ) (name : Callback) (context first second now : ℕ) (h : Contexts) → AllEnds (Lost v vm) (calling v vm name context first second now h)
unfolding calling
lost v vm name context first second now h = lost_if (nat_lt vm (length v.slots)) v vm name context first second now h refl

-- WHAT A CALLBACK LEAVES: as many slots, as many VMs with contexts, machines at their numbers; and whose machine is gone had none before, or died by it
pub record LeavesAll (v : Vms) (vm : ℕ) (h : Contexts) (c : Called Vms) : Type 0 where
  pub slots : length c.host.slots ≡ length v.slots
  pub contexts : length c.contexts.vms ≡ length h.vms
  pub placed : ArePlaced c.host
  pub gone : (wm : ℕ) → (slot_in c.host wm).live ≡ None → ((slot_in v wm).live ≡ None) ⊎ ((wm ≡ vm) × IsDeath c.end)

gone_of : (v : Vms) (vm : ℕ) (c : Called Vms) → IsApart v vm c → Lost v vm c → (wm : ℕ) → (slot_in c.host wm).live ≡ None → ((slot_in v wm).live ≡ None) ⊎ ((wm ≡ vm) × IsDeath c.end)
gone_of v vm c apart was wm none =
    ⊎_elim
    (λ (same : wm ≡ vm).
    ⊎_elim (λ (before : (slot_in v vm).live ≡ None). inl (subst (λ (n : ℕ). (slot_in v n).live ≡ None) (sym same) before)) (λ (death : IsDeath c.end). inr (same, death))
    (was (subst (λ (n : ℕ). (slot_in c.host n).live ≡ None) same none)))
    (λ (other : wm ≡ vm → ⊥). inl (sym (ap (λ (s : Slot). s.live) (apart.others wm other)) ∙ none))
    (cases_eq wm vm)

pub leaves_all : CallbacksAreApart → CallbacksChangeTheirOwn → PlacesStay → (v : Vms) (vm : ℕ) (name : Callback) (context first second now : ℕ) (h : Contexts) → ArePlaced v
    → AllEnds (LeavesAll v vm h) (calling v vm name context first second now h)
leaves_all apart change stay v vm name context first second now h placed =
    all_both (λ (c : Called Vms). IsApart v vm c × Lost v vm c) (λ (c : Called Vms). ChangesItsOwn vm h c.contexts × ArePlaced c.host) (LeavesAll v vm h) (calling v vm name context first second now h)
    (all_both (IsApart v vm) (Lost v vm) (λ (c : Called Vms). IsApart v vm c × Lost v vm c) (calling v vm name context first second now h) (apart v vm name context first second now h)
    (lost v vm name context first second now h) (λ c one two. (one, two)))
    (all_both (λ (c : Called Vms). ChangesItsOwn vm h c.contexts) (λ (c : Called Vms). ArePlaced c.host) (λ (c : Called Vms). ChangesItsOwn vm h c.contexts × ArePlaced c.host)
    (calling v vm name context first second now h) (change v vm name context first second now h placed) (stay v vm name context first second now h placed) (λ c one two. (one, two)))
    (λ c one two. record { slots = one.0.count; contexts = two.0.count; placed = two.1; gone = gone_of v vm c one.0 one.1 })
