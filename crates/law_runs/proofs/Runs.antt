-- A callback that is asked is run: the two tests before it are true.
use Rattle.std.proofs.Common.{◌≡◌, ◌<◌, ℕ, zero, suc, Bool, true, false, List, [], ◌∷◌, length, Option, None, Some, is_some, slice_index_or, if◌then◌else◌, nat_lt, nat_le, refl, ap, ◌∙◌, subst, arith}
use Rattle.std.proofs.lemmas.Bool.{and_from, lt-ltb, le-leb, false≢true}
use Rattle.std.proofs.lemmas.Option.{none-some}
use Rattle.contexts.specs.declared.parts.Contexts.{Contexts}
use Rattle.filter_host.specs.Called.{Called, called_back}
use Rattle.filter_host.specs.declared.host.CallbackEnd.TheVariants as call_end
use Rattle.filter_host.specs.declared.host.Callback.{Callback}
use Rattle.store_model.specs.Program.{Program, done, bind}
use Rattle.store_model.specs.Runs.{bind_assoc}
use Rattle.vm_host.specs.Calling.{calling_back}
use Rattle.vm_host.specs.Dispatching.{dispatching}
use Rattle.vm_host.specs.HostStates.{host_state}
use Rattle.vm_host.specs.RoleTypes.{function_for, numbers_for, counts_at}
use Rattle.vm_host.specs.Slots.{Came, came_of, silent, slot_in, no_slot, role_of, exports_role, exported_in, by_role, is_at_home, with_live, calling_live, calling_slot, calling}
use Rattle.vm_host.specs.Vms.{VmAt, ran_as, with_budget, calling_if, running}
use Rattle.vm_host.specs.declared.roles.Role.{Role}
use Rattle.vm_host.specs.declared.slots.Slot.{Slot}
use Rattle.vm_host.specs.declared.slots.Vms.{Vms}
use Rattle.law_vms.specs.Silent.{IsTied, AreTied}
use Rattle.law_runs.specs.Runs.{IsLive, AreAtHome, comes_back, run_for, begins_with, run_of, HasFunction, RunsWhatIsAsked}

pub then_true : {A : Type 0} (b : Bool) (x y : A) → b ≡ true → (if b then x else y) ≡ x
then_true true x y is = refl
then_true false x y is = absurd (false≢true is)

-- where a machine stands there is a slot
pub inside : (slots : List Slot) (vm : ℕ) (live : VmAt) → (slice_index_or slots vm no_slot).live ≡ Some live → vm < length slots
inside [] vm live is = absurd (none-some live is)
inside (s ∷ slots) zero live is = omega arith
inside (s ∷ slots) (suc vm) live is = (let less = inside slots vm live is in omega (arith, less))

abbrev back : Vms → ℕ → Came → Program (Called Vms)
back v vm c = done (called_back c.end c.lines (with_live vm c.live v) c.contexts)

home : (most place vm : ℕ) (h : Contexts) → place ≡ vm → length h.vms ≡ most → vm < most → is_at_home most place h ≡ true
home most place vm h is same less =
    and_from (nat_lt place (length h.vms)) (nat_le (length h.vms) most) (lt-ltb place (length h.vms) (omega (arith, is, same, less))) (le-leb (length h.vms) most (omega (arith, same)))

slot_runs : (most vm : ℕ) (live : VmAt) (o : Option VmAt) (name : Callback) (context first second now : ℕ) (h : Contexts) → o ≡ Some live → live.calls.place ≡ vm → length h.vms ≡ most → vm < most
    → calling_slot most o name context first second now h ≡ calling_live live name context first second now h
unfolding calling_slot
slot_runs most vm live o name context first second now h is place same less =
    ap (λ (p : Option VmAt). calling_slot most p name context first second now h) is
    ∙ then_true (is_at_home most live.calls.place h) (calling_live live name context first second now h) (done (silent (Some live) h)) (home most live.calls.place vm h place same less)

live_runs : (v : Vms) (vm : ℕ) (live : VmAt) (name : Callback) (context first second now : ℕ) (h : Contexts)
    → bind (calling_live live name context first second now h) (back v vm) ≡ run_for v vm live name context first second now h
unfolding calling_live
live_runs v vm live name context first second now h =
    bind_assoc (by_role (role_of name) live now context first second (host_state h [])) (λ r. done (came_of r)) (back v vm)

whole : (v : Vms) (vm : ℕ) (live : VmAt) (name : Callback) (context first second now : ℕ) (h : Contexts) → IsLive v vm live → AreAtHome v h
    → calling v vm name context first second now h ≡ run_for v vm live name context first second now h
unfolding calling
whole v vm live name context first second now h is same =
    let less : vm < length v.slots = inside v.slots vm live is.stands in
    then_true (nat_lt vm (length v.slots)) (bind (calling_slot (length v.slots) (slot_in v vm).live name context first second now h) (back v vm))
    (done (called_back (call_end.Returned None) [] v h)) (lt-ltb vm (length v.slots) less)
    ∙ (ap (λ (p : Program Came). bind p (back v vm)) (slot_runs (length v.slots) vm live (slot_in v vm).live name context first second now h is.stands is.place same less)
    ∙ live_runs v vm live name context first second now h)

-- ---- the function of a callback

function_runs : (v : Vms) (vm : ℕ) (live : VmAt) (r : Role) (f context first second now : ℕ) (h : Contexts)
    → bind (calling_if live now (Some f) r context first second (host_state h [])) (λ x. done (comes_back v vm x)) ≡ run_of v vm live r f context first second now h
unfolding running
function_runs v vm live r f context first second now h =
    bind_assoc (calling_back (dispatching live.calls now) f (numbers_for r context first second (counts_at live.calls.place context h)) (with_budget live) (begins_with live context h))
    (λ x. done (ran_as live (begins_with live context h) x)) (λ x. done (comes_back v vm x))

has_runs : (v : Vms) (vm : ℕ) (live : VmAt) (name : Callback) (context first second now : ℕ) (h : Contexts) (f : HasFunction live name)
    → run_for v vm live name context first second now h ≡ run_of v vm live f.role f.number context first second now h
has_runs v vm live name context first second now h f =
    ap (λ (o : Option Role). bind (by_role o live now context first second (host_state h [])) (λ x. done (comes_back v vm x))) f.is
    ∙ (ap (λ (o : Option ℕ). bind (calling_if live now o f.role context first second (host_state h [])) (λ x. done (comes_back v vm x))) f.stands
    ∙ function_runs v vm live f.role f.number context first second now h)

-- ---- what is exported

by_number : (live : VmAt) (name : Callback) (role : Role) → role_of name ≡ Some role → (o : Option ℕ) → function_for live.functions role ≡ o → is_some o ≡ true → HasFunction live name
by_number live name role is None stands some = absurd (false≢true some)
by_number live name role is (Some f) stands some = record { role = role; is = is; number = f; stands = stands }

by_role_of : (live : VmAt) (name : Callback) (o : Option Role) → role_of name ≡ o → exports_role live.functions o ≡ true → HasFunction live name
by_role_of live name None is some = absurd (false≢true some)
by_role_of live name (Some role) is some = by_number live name role is (function_for live.functions role) refl some

exported : (v : Vms) (vm : ℕ) (live : VmAt) (name : Callback) → IsLive v vm live → AreTied v → exported_in v vm name ≡ true → HasFunction live name
exported v vm live name is tied exports =
    let functions : live.functions ≡ (slot_in v vm).functions = subst (IsTied (slot_in v vm)) is.stands (tied vm) in
    by_role_of live name (role_of name) refl (ap (λ (fs : List (Option ℕ)). exports_role fs (role_of name)) functions ∙ exports)

pub runs_what_is_asked : RunsWhatIsAsked
runs_what_is_asked = record {
  whole = whole;
  function = λ v vm live name context first second now h is same f.
      whole v vm live name context first second now h is same ∙ has_runs v vm live name context first second now h f;
  exported = exported;
}
