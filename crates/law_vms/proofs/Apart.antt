-- A callback of one VM leaves the others alone.
use Rattle.std.proofs.Common.{◌≡◌, ◌≢◌, ℕ, ◌<◌, Bool, true, false, length, Option, None, Some, refl, ap, subst, sym, nat_lt, if◌then◌else◌, List, []}
use Rattle.std.proofs.lemmas.Bool.{ltb-true}
use Rattle.std.proofs.lemmas.List.{get_or-set_same, get_or-set_other, length-set}
use Rattle.contexts.specs.declared.parts.Contexts.{Contexts}
use Rattle.filter_host.specs.Called.{called_back}
use Rattle.filter_host.specs.declared.host.CallbackEnd.TheVariants as call_end
use Rattle.filter_host.specs.declared.host.Callback.{Callback}
use Rattle.store_model.specs.Program.{done, bind}
use Rattle.vm_host.specs.declared.roles.Role.{Role}
use Rattle.vm_host.specs.declared.slots.Slot.{Slot}
use Rattle.vm_host.specs.declared.slots.Vms.{Vms}
use Rattle.vm_host.specs.Calling.{Returned, returned, run_trapped, run_spent, run_open, calling_back}
use Rattle.vm_host.specs.Dispatching.{dispatching}
use Rattle.vm_host.specs.HostStates.{HostState, host_state}
use Rattle.vm_host.specs.RoleTypes.{function_for, beginner_in, numbers_for, counts_at}
use Rattle.vm_host.specs.Slots.{Came, silent, came_of, end_of, by_role, role_of, calling_live, calling_slot, is_at_home, slot_in, no_slot, with_live, calling}
use Rattle.vm_host.specs.Vms.{VmAt, Ran, ran_as, with_budget, running, running_if, begins_then, calling_if, made_effective}
use Rattle.law_vms.specs.Apart.{AllEnds, IsGone, IsApart, CallbacksAreApart}
use Rattle.law_vms.proofs.Ends.{all_then, all_done}
use Rattle.wasm_syntax.specs.declared.types.Value.{Value}

-- a machine that is there exports these functions
abbrev pub Exports : List (Option ℕ) → Option VmAt → Type 0
Exports fs None = Unit {0}
Exports fs (Some v) = v.functions ≡ fs

-- where it died none is left, and one that is left exports what it did
abbrev RanWell : List (Option ℕ) → Ran → Type 0
RanWell fs r = IsGone (end_of r.end) r.vm × Exports fs r.vm

ran_well : (v : VmAt) (s : HostState) (r : Returned HostState) → RanWell v.functions (ran_as v s r)
ran_well v s (returned x g h) = (tt, refl)
ran_well v s (run_trapped c n h) = (refl, tt)
ran_well v s (run_spent n h) = (refl, tt)
ran_well v s run_open = (refl, tt)

running_well : (v : VmAt) (now f : ℕ) (args : List Value) (s : HostState) → AllEnds (RanWell v.functions) (running v now f args s)
unfolding running
running_well v now f args s = all_done (RanWell v.functions) (calling_back (dispatching v.calls now) f args (with_budget v) s) (ran_as v s) (ran_well v s)

running_if_well : (v : VmAt) (now : ℕ) (o : Option ℕ) (args : List Value) (s : HostState) → AllEnds (RanWell v.functions) (running_if v now o args s)
running_if_well v now None args s = (tt, refl)
running_if_well v now (Some f) args s = running_well v now f args s

begins_well : (fs : List (Option ℕ)) (now : ℕ) (o : Option VmAt) (r : Ran) → Exports fs o → RanWell fs r → AllEnds (RanWell fs) (begins_then now o r)
begins_well fs now None r same is = is
begins_well fs now (Some v) r same is = subst (λ gs. AllEnds (RanWell gs) (running_if v now (beginner_in v.functions) [] r.state)) same (running_if_well v now (beginner_in v.functions) [] r.state)

calling_if_well : (v : VmAt) (now : ℕ) (o : Option ℕ) (r : Role) (context first second : ℕ) (s : HostState) → AllEnds (RanWell v.functions) (calling_if v now o r context first second s)
calling_if_well v now None r context first second s = (tt, refl)
calling_if_well v now (Some f) r context first second s = running_well v now f (numbers_for r context first second (counts_at v.calls.place context s.contexts)) (host_state (made_effective v.calls.place context s.contexts) s.lines)

by_role_well : (o : Option Role) (v : VmAt) (now context first second : ℕ) (s : HostState) → AllEnds (RanWell v.functions) (by_role o v now context first second s)
by_role_well None v now context first second s =
    all_then (RanWell v.functions) (RanWell v.functions) (running_if v now v.start [] s) (λ r. begins_then now r.vm r) (running_if_well v now v.start [] s) (λ r is. begins_well v.functions now r.vm r is.1 is)
by_role_well (Some r) v now context first second s = calling_if_well v now (function_for v.functions r) r context first second s

abbrev pub CameWell : List (Option ℕ) → Came → Type 0
CameWell fs c = IsGone c.end c.live × Exports fs c.live

live_well : (v : VmAt) (name : Callback) (context first second now : ℕ) (h : Contexts) → AllEnds (CameWell v.functions) (calling_live v name context first second now h)
unfolding calling_live
live_well v name context first second now h =
    all_then (RanWell v.functions) (CameWell v.functions) (by_role (role_of name) v now context first second (host_state h [])) (λ r. done (came_of r)) (by_role_well (role_of name) v now context first second (host_state h [])) (λ r is. is)

at_home_well : (b : Bool) (v : VmAt) (name : Callback) (context first second now : ℕ) (h : Contexts)
    → AllEnds (CameWell v.functions) (if b then calling_live v name context first second now h else done (silent (Some v) h))
at_home_well true v name context first second now h = live_well v name context first second now h
at_home_well false v name context first second now h = (tt, refl)

pub slot_well : (fs : List (Option ℕ)) (most : ℕ) (o : Option VmAt) (name : Callback) (context first second now : ℕ) (h : Contexts) → Exports fs o
    → AllEnds (CameWell fs) (calling_slot most o name context first second now h)
unfolding calling_slot
slot_well fs most None name context first second now h same = (tt, tt)
slot_well fs most (Some v) name context first second now h same =
    subst (λ gs. AllEnds (CameWell gs) (calling_slot most (Some v) name context first second now h)) same (at_home_well (is_at_home most v.calls.place h) v name context first second now h)

-- what it exports, where it is there
abbrev own_functions : Option VmAt → List (Option ℕ)
own_functions None = []
own_functions (Some v) = v.functions

exports_own : (o : Option VmAt) → Exports (own_functions o) o
exports_own None = tt
exports_own (Some v) = refl

-- ---- the VMs with another machine at one place

pub with_count : (vm : ℕ) (live : Option VmAt) (v : Vms) → length (with_live vm live v).slots ≡ length v.slots
with_count vm live v = length-set v.slots vm (record (slot_in v vm) { live = live })

pub with_other : (vm other : ℕ) (live : Option VmAt) (v : Vms) → other ≢ vm → slot_in (with_live vm live v) other ≡ slot_in v other
with_other vm other live v is = get_or-set_other v.slots vm other (record (slot_in v vm) { live = live }) no_slot is

pub with_own : (vm : ℕ) (live : Option VmAt) (v : Vms) → vm < length v.slots → slot_in (with_live vm live v) vm ≡ record (slot_in v vm) { live = live }
with_own vm live v is = get_or-set_same v.slots vm (record (slot_in v vm) { live = live }) no_slot is

came_apart : (v : Vms) (vm : ℕ) → vm < length v.slots → (c : Came) → IsGone c.end c.live → IsApart v vm (called_back c.end c.lines (with_live vm c.live v) c.contexts)
came_apart v vm there c gone = record {
  count = with_count vm c.live v;
  others = λ other is. with_other vm other c.live v is;
  functions = ap (λ (s : Slot). s.functions) (with_own vm c.live v there);
  registers = ap (λ (s : Slot). s.registers) (with_own vm c.live v there);
  gone = subst (IsGone c.end) (sym (ap (λ (s : Slot). s.live) (with_own vm c.live v there))) gone;
}

is_apart : (v : Vms) (vm : ℕ) (h : Contexts) → IsApart v vm (called_back (call_end.Returned None) [] v h)
is_apart v vm h = record { count = refl; others = λ other is. refl; functions = refl; registers = refl; gone = tt }

apart_if : (b : Bool) (v : Vms) (vm : ℕ) (name : Callback) (context first second now : ℕ) (h : Contexts) → nat_lt vm (length v.slots) ≡ b
    → AllEnds (IsApart v vm) (if b then bind (calling_slot (length v.slots) (slot_in v vm).live name context first second now h) (λ c. done (called_back c.end c.lines (with_live vm c.live v) c.contexts)) else done (called_back (call_end.Returned None) [] v h))
apart_if true v vm name context first second now h is =
    all_then (CameWell (own_functions (slot_in v vm).live)) (IsApart v vm) (calling_slot (length v.slots) (slot_in v vm).live name context first second now h) (λ c. done (called_back c.end c.lines (with_live vm c.live v) c.contexts))
    (slot_well (own_functions (slot_in v vm).live) (length v.slots) (slot_in v vm).live name context first second now h (exports_own (slot_in v vm).live))
    (λ c well. came_apart v vm (ltb-true vm (length v.slots) is) c well.0)
apart_if false v vm name context first second now h is = is_apart v vm h

pub apart : CallbacksAreApart
unfolding calling
apart v vm name context first second now h = apart_if (nat_lt vm (length v.slots)) v vm name context first second now h refl
