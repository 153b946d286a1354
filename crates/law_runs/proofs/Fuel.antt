-- With which fuel and which pages a VM runs.
use Rattle.std.proofs.Common.{◌≡◌, ℕ, List, [], true, false, Option, None, Some, refl, ap, ◌∙◌, sym, subst}
use Rattle.std.specs.Option.{option_map}
use Rattle.std.specs.Prelude.{codes}
use Rattle.contexts.specs.declared.parts.Contexts.{Contexts}
use Rattle.filter_host.specs.Called.{Called}
use Rattle.filter_host.specs.declared.host.CallbackEnd.TheVariants as call_end
use Rattle.filter_host.specs.declared.host.Callback.{Callback}
use Rattle.filter_host.specs.declared.host.Callback.TheVariants as callbacks
use Rattle.filter_host.specs.declared.host.Death.TheVariants as death
use Rattle.gate_base.specs.declared.cause.Cause.TheVariants as cause
use Rattle.gate_config.specs.declared.entries.VmEntry.{VmEntry}
use Rattle.abi_links.specs.Judging.{target_of}
use Rattle.store_model.specs.Program.{Program, done, ask, measure, bind}
use Rattle.store_model.specs.Runs.{bind_assoc}
use Rattle.vm_host.specs.Calling.{Returned, returned, run_trapped, run_spent, run_open, calling_back, running}
use Rattle.vm_host.specs.Dispatching.{dispatching}
use Rattle.vm_host.specs.HostStates.{HostState, host_state}
use Rattle.vm_host.specs.RoleTypes.{beginner_in, numbers_for, counts_at}
use Rattle.vm_host.specs.Slots.{slot_in, calling, calling_live, calling_slot}
use Rattle.vm_host.specs.Vms as vms
use Rattle.vm_host.specs.Vms.{VmAt, Ran, ran_as, first_vm, running_if, begins_then, beginning}
use Rattle.vm_host.specs.declared.slots.Vms.{Vms}
use Rattle.law_vms.specs.Bounds.{IsOf, AreOf, VmsKeepTheirBounds}
use Rattle.law_vms.specs.MadeVms.{made_vms}
use Rattle.wasm_syntax.specs.Nested.{nests}
use Rattle.wasm_syntax.specs.ReductionRuns.{walk}
use Rattle.wasm_syntax.specs.declared.module.Module.{Module}
use Rattle.law_runs.proofs.Callbacks.{all_given}
use Rattle.law_runs.proofs.Made.{vms_are_made_with_machines}
use Rattle.law_runs.proofs.Runs.{runs_what_is_asked}
use Rattle.law_runs.specs.Denying.{at_home}
use Rattle.law_runs.specs.Fuel.{IsBound, MayBeBound, HasEntry, IsMade, run_with, run_where, then_begun, begun_with, RunsHaveTheirFuel, starting, spends, begun, initializes, growing, EndsSo, FuelExamples}
use Rattle.law_runs.specs.Homes.{made_worker}
use Rattle.law_runs.specs.Made.{machine_for}
use Rattle.law_runs.specs.Runs.{IsLive, AreAtHome, HasFunction, begins_with, comes_back}
use Rattle.law_vms.specs.Apart.{AllEnds}

-- ---- as it is made

stands_as : (entries : List VmEntry) (vm : ℕ) (entry : VmEntry) (m : Module) → HasEntry entries vm entry m → (slot_in (made_vms entries) vm).live ≡ Some (first_vm vm m entry.pages entry.fuel)
stands_as entries vm entry m has =
    vms_are_made_with_machines.each entries vm
    ∙ (ap (machine_for vm) has.stands ∙ ap (option_map (λ (n : Module). first_vm vm n entry.pages entry.fuel)) has.code)

first_bound : (vm : ℕ) (m : Module) (pages fuel : ℕ) → IsBound vm m pages fuel (first_vm vm m pages fuel)
first_bound vm m pages fuel = record { program = refl; place = refl; targets = refl; functions = refl; start = refl; budget = refl }

is_made : (entries : List VmEntry) (vm : ℕ) (entry : VmEntry) (m : Module) → HasEntry entries vm entry m → IsMade entries vm entry m
is_made entries vm entry m has = record {
  live = first_vm vm m entry.pages entry.fuel;
  stands = stands_as entries vm entry m has;
  config = refl;
  bound = first_bound vm m entry.pages entry.fuel;
}

-- ---- over a life

bound_since : (vm : ℕ) (m : Module) (pages fuel : ℕ) (was : VmAt) (is : Option VmAt) → IsBound vm m pages fuel was → IsOf (Some was) is → MayBeBound vm m pages fuel is
bound_since vm m pages fuel was None bound of = tt
bound_since vm m pages fuel was (Some is) bound of = record {
  program = ap (λ f. f.0) of.guest ∙ bound.program;
  place = ap (λ d. d.place) of.calls ∙ bound.place;
  targets = ap (λ d. d.targets) of.calls ∙ bound.targets;
  functions = of.functions ∙ bound.functions;
  start = of.start ∙ bound.start;
  budget = of.budget ∙ bound.budget;
}

stays_bound : (entries : List VmEntry) (are : Vms) (vm : ℕ) (entry : VmEntry) (m : Module) → AreOf (made_vms entries) are → HasEntry entries vm entry m
    → MayBeBound vm m entry.pages entry.fuel (slot_in are vm).live
stays_bound entries are vm entry m of has =
    bound_since vm m entry.pages entry.fuel (first_vm vm m entry.pages entry.fuel) (slot_in are vm).live (first_bound vm m entry.pages entry.fuel)
    (subst (λ (o : Option VmAt). IsOf o (slot_in are vm).live) (stands_as entries vm entry m has) (of vm))

-- ---- runs

-- programs that go on alike from each end that the first one may come to
bind_alike : {A B : Type 0} (P : A → Type 0) (p : Program A) (f g : A → Program B) → AllEnds P p → ((a : A) → P a → f a ≡ g a) → bind p f ≡ bind p g
bind_alike P (done a) f g all alike = alike a all
bind_alike P (ask vm call k) f g all alike = λ i. ask vm call (λ r. bind_alike P (k r) f g (all r) alike i)
bind_alike P (measure vm call k) f g all alike = λ i. measure vm call (λ r. bind_alike P (k r) f g (all r) alike i)

abbrev HasFuel : ℕ → Option VmAt → Type 0
HasFuel fuel None = Unit {0}
HasFuel fuel (Some v) = v.budget ≡ fuel

abbrev LeavesFuel : ℕ → Ran → Type 0
LeavesFuel fuel r = HasFuel fuel r.vm

ran_fuel : (fuel : ℕ) (v : VmAt) (s : HostState) (r : Returned HostState) → v.budget ≡ fuel → LeavesFuel fuel (ran_as v s r)
ran_fuel fuel v s (returned x g h) is = is
ran_fuel fuel v s (run_trapped c n h) is = tt
ran_fuel fuel v s (run_spent n h) is = tt
ran_fuel fuel v s run_open is = tt

where_fuel : (fuel : ℕ) (v : VmAt) (now : ℕ) (o : Option ℕ) (s : HostState) → v.budget ≡ fuel → AllEnds (LeavesFuel fuel) (run_where fuel v now o s)
where_fuel fuel v now None s is = is
where_fuel fuel v now (Some f) s is =
    all_given (LeavesFuel fuel) (calling_back (dispatching v.calls now) f [] (record v.guest { fuel = fuel }) s) (ran_as v s) (λ r. ran_fuel fuel v s r is)

where_is : (fuel : ℕ) (v : VmAt) (now : ℕ) (o : Option ℕ) (s : HostState) → v.budget ≡ fuel → running_if v now o [] s ≡ run_where fuel v now o s
unfolding vms.running
where_is fuel v now None s is = refl
where_is fuel v now (Some f) s is = ap (λ (n : ℕ). run_with n v now f [] s) is

then_is : (fuel now : ℕ) (o : Option VmAt) (r : Ran) → HasFuel fuel o → begins_then now o r ≡ then_begun fuel now o r
then_is fuel now None r is = refl
then_is fuel now (Some v) r is = where_is fuel v now (beginner_in v.functions) r.state is

beginning_is : (fuel : ℕ) (v : VmAt) (now : ℕ) (s : HostState) → v.budget ≡ fuel → beginning v now s ≡ begun_with fuel v now s
beginning_is fuel v now s is =
    ap (λ (p : Program Ran). bind p (λ r. begins_then now r.vm r)) (where_is fuel v now v.start s is)
    ∙ bind_alike (LeavesFuel fuel) (run_where fuel v now v.start s) (λ r. begins_then now r.vm r) (λ r. then_begun fuel now r.vm r) (where_fuel fuel v now v.start s is)
    (λ r left. then_is fuel now r.vm r left)

begins_so : (v : Vms) (vm : ℕ) (m : Module) (pages fuel : ℕ) (live : VmAt) (context first second now : ℕ) (h : Contexts) → IsLive v vm live → AreAtHome v h → IsBound vm m pages fuel live
    → calling v vm callbacks.Begin context first second now h ≡ bind (begun_with fuel live now (host_state h [])) (λ r. done (comes_back v vm r))
begins_so v vm m pages fuel live context first second now h is home bound =
    runs_what_is_asked.whole v vm live callbacks.Begin context first second now h is home
    ∙ ap (λ (p : Program Ran). bind p (λ r. done (comes_back v vm r))) (beginning_is fuel live now (host_state h []) bound.budget)

-- what stands after a run, in one piece or in two
run_then : (v : Vms) (vm fuel : ℕ) (live : VmAt) (name : Callback) (f : HasFunction live name) (context first second now : ℕ) (h : Contexts)
    → bind (calling_back (dispatching live.calls now) f.number (numbers_for f.role context first second (counts_at live.calls.place context h)) (record live.guest { fuel = fuel }) (begins_with live context h))
    (λ x. done (comes_back v vm (ran_as live (begins_with live context h) x)))
    ≡ bind (run_with fuel live now f.number (numbers_for f.role context first second (counts_at live.calls.place context h)) (begins_with live context h)) (λ r. done (comes_back v vm r))
run_then v vm fuel live name f context first second now h =
    sym (bind_assoc (calling_back (dispatching live.calls now) f.number (numbers_for f.role context first second (counts_at live.calls.place context h)) (record live.guest { fuel = fuel }) (begins_with live context h))
    (λ x. done (ran_as live (begins_with live context h) x)) (λ r. done (comes_back v vm r)))

calls_so : (v : Vms) (vm : ℕ) (m : Module) (pages fuel : ℕ) (live : VmAt) (name : Callback) (context first second now : ℕ) (h : Contexts)
    → IsLive v vm live → AreAtHome v h → IsBound vm m pages fuel live → (f : HasFunction live name)
    → calling v vm name context first second now h ≡
    bind (run_with fuel live now f.number (numbers_for f.role context first second (counts_at live.calls.place context h)) (begins_with live context h)) (λ r. done (comes_back v vm r))
calls_so v vm m pages fuel live name context first second now h is home bound f =
    runs_what_is_asked.function v vm live name context first second now h is home f
    ∙ (run_then v vm live.budget live name f context first second now h
    ∙ ap (λ (n : ℕ). bind (run_with n live now f.number (numbers_for f.role context first second (counts_at live.calls.place context h)) (begins_with live context h)) (λ r. done (comes_back v vm r))) bound.budget)

pub runs_have_their_fuel : VmsKeepTheirBounds → RunsHaveTheirFuel
runs_have_their_fuel keep = record {
  made_so = is_made;
  turns = λ config who seed plan e vm entry m life has. stays_bound config.vms e.host vm entry m (keep.turns plan (made_worker config who seed) e life) has;
  steps = λ config who seed plan e vm entry m goes has. stays_bound config.vms e.host vm entry m (keep.steps plan (made_worker config who seed) e goes) has;
  calls = calls_so;
  begins = begins_so;
}

-- ---- worked

abbrev end_or : {A : Type 0} → A → Program A → A
end_or a (done b) = b
end_or a (ask vm call k) = a
end_or a (measure vm asked k) = a

abbrev nothing : Called Vms
nothing = record { end = call_end.Returned None; lines = []; host = record { slots = [] }; contexts = at_home }

-- what it comes to
abbrev came : Program (Called Vms) → Called Vms
came p = end_or nothing p

each_its_own : EndsSo (initializes 1 2 4) (call_end.Returned None) true
unfolding calling calling_slot calling_live vms.running running dispatching target_of walk nests
each_its_own = record { called = came (initializes 1 2 4); is = refl; ends = refl; machine = refl }

in_start : EndsSo (initializes 2 1 3) (call_end.Died death.FuelSpent) false
unfolding calling calling_slot calling_live vms.running running dispatching target_of walk nests
in_start = record { called = came (initializes 2 1 3); is = refl; ends = refl; machine = refl }

in_initialize : EndsSo (initializes 1 2 3) (call_end.Died death.FuelSpent) false
unfolding calling calling_slot calling_live vms.running running dispatching target_of walk nests
in_initialize = record { called = came (initializes 1 2 3); is = refl; ends = refl; machine = refl }

by_start_name : EndsSo (begun (starting (codes "_start") (spends 1) (spends 2)) 3 1) (call_end.Died death.FuelSpent) false
unfolding calling calling_slot calling_live vms.running running dispatching target_of walk nests
by_start_name = record { called = came (begun (starting (codes "_start") (spends 1) (spends 2)) 3 1); is = refl; ends = refl; machine = refl }

other_name : EndsSo (begun (starting (codes "begin") (spends 1) (spends 2)) 3 1) (call_end.Returned None) true
unfolding calling calling_slot calling_live vms.running running dispatching target_of walk nests
other_name = record { called = came (begun (starting (codes "begin") (spends 1) (spends 2)) 3 1); is = refl; ends = refl; machine = refl }

one_page : EndsSo (growing 1) (call_end.Returned None) true
unfolding calling calling_slot calling_live vms.running running dispatching target_of walk nests
one_page = record { called = came (growing 1); is = refl; ends = refl; machine = refl }

two_pages : EndsSo (growing 2) (call_end.Died (death.Trapped cause.Divide)) false
unfolding calling calling_slot calling_live vms.running running dispatching target_of walk nests
two_pages = record { called = came (growing 2); is = refl; ends = refl; machine = refl }

pub fuel_examples : FuelExamples
fuel_examples = record {
  each_its_own = each_its_own;
  in_start = in_start;
  in_initialize = in_initialize;
  by_start_name = by_start_name;
  other_name = other_name;
  one_page = one_page;
  two_pages = two_pages;
}
