-- What each host call keeps is kept by a whole callback of a VM, whatever is replied.
use Rattle.std.proofs.Common.{ℕ, zero, suc, ◌++◌, List, [], length, map}
use Rattle.std.specs.Prelude.{Option, None, Some, nat_lt, slice_get}
use Rattle.abi_calls.specs.Hosting.{Hosted, hosting, wasi_hosting}
use Rattle.abi_model.specs.Calls as model
use Rattle.abi_model.specs.declared.table.HostCall.{HostCall}
use Rattle.abi_model.specs.declared.table.WasiCall.{WasiCall}
use Rattle.abi_model.specs.declared.table.WasiCall.TheVariants as wasi
use Rattle.abi_types.specs.GuestAt.{GuestAt}
use Rattle.contexts.specs.declared.parts.Contexts.{Contexts}
use Rattle.contexts.specs.Reached.{seen, put, no_changes, contains}
use Rattle.filter_host.specs.Called as course
use Rattle.filter_host.specs.declared.host.Callback.{Callback}
use Rattle.abi_links.specs.Numbers.{number_of}
use Rattle.abi_links.specs.declared.target.ImportTarget.{ImportTarget}
use Rattle.abi_links.specs.declared.target.ImportTarget.TheVariants as target
use Rattle.store_model.specs.Program.{Program, done, ask, measure, bind}
use Rattle.vm_host.specs.Calling.{Called, called, call_trapped, call_spent, call_open, Returned, returned, run_trapped, run_spent, run_open, Abi, serve_result, running_by, running, calling_back, asked_at}
use Rattle.vm_host.specs.Dispatching.{ends_as, served_as, serve_calls, by_found, by_target, wasi_call, dispatching}
use Rattle.vm_host.specs.HostStates.{HostState, host_state}
use Rattle.vm_host.specs.Slots as slots
use Rattle.vm_host.specs.Slots.{Came, came_of, calling_live, calling_slot, by_role, role_of, is_at_home, slot_in, silent}
use Rattle.vm_host.specs.Vms as vms
use Rattle.vm_host.specs.Vms.{VmAt, Ran, ran_as, running_if, begins_then, calling_if, made_effective, with_budget}
use Rattle.vm_host.specs.RoleTypes.{beginner_in}
use Rattle.vm_host.specs.declared.dispatch.Dispatcher.{Dispatcher}
use Rattle.vm_host.specs.declared.roles.Role.{Role}
use Rattle.vm_host.specs.declared.slots.Vms.{Vms}
use Rattle.wasm_syntax.specs.ReductionRuns.{Stopped, has_finished, has_asked, has_trapped, has_spent, goes_on, is_stuck, run}
use Rattle.wasm_syntax.specs.declared.types.Value.{Value}
use Rattle.law_lines.proofs.Kept.{by_bool}

-- it holds of every end of a program, whatever is replied
abbrev pub AllDone : {A : Type 0} → (A → Type 0) → Program A → Type 0
AllDone P (done a) = P a
AllDone P (ask vm call k) = (r : _) → AllDone P (k r)
AllDone P (measure vm call k) = (r : _) → AllDone P (k r)

pub all_bind : {A B : Type 0} (P : A → Type 0) (Q : B → Type 0) (p : Program A) (f : A → Program B) → AllDone P p → ((a : A) → P a → AllDone Q (f a)) → AllDone Q (bind p f)
all_bind P Q (done a) f all go = go a all
all_bind P Q (ask vm call k) f all go = λ r. all_bind P Q (k r) f (all r) go
all_bind P Q (measure vm call k) f all go = λ r. all_bind P Q (k r) f (all r) go

pub any_done : {A : Type 0} (p : Program A) → AllDone (λ (a : A). Unit {0}) p
any_done (done a) = tt
any_done (ask vm call k) = λ r. any_done (k r)
any_done (measure vm call k) = λ r. any_done (k r)

-- I is what is kept; Good is what is known of each host call of a VM, of which these are the contexts
module _ (I : HostState → Type 0) (Good : Contexts → ℕ → Hosted → Type 0)
    (serves : (place : ℕ) (s : HostState) (h : Hosted) → I s → Good s.contexts place h → I (host_state (put h.changes place s.contexts) (s.lines ++ h.lines)))
    (wakes : (place e : ℕ) (s : HostState) → I s → I (host_state (put (record no_changes { effective = Some e }) place s.contexts) s.lines))
    (env_good : (c : HostCall) (now place : ℕ) (args : List ℕ) (g : GuestAt) (s : HostState) → I s → AllDone (Good s.contexts place) (hosting c now place args g (seen s.contexts place)))
    (wasi_good : (c : WasiCall) (now place : ℕ) (args : List ℕ) (g : GuestAt) (s : HostState) → I s → AllDone (Good s.contexts place) (wasi_hosting c now place args g (seen s.contexts place))) where
  -- ---- what is called

  abbrev CalledSo : Called HostState → Type 0
  CalledSo (called v g s) = I s
  CalledSo (call_trapped c left s) = I s
  CalledSo (call_spent left s) = I s
  CalledSo call_open = Unit {0}

  abbrev ReturnedSo : Returned HostState → Type 0
  ReturnedSo (returned v g s) = I s
  ReturnedSo (run_trapped c left s) = I s
  ReturnedSo (run_spent left s) = I s
  ReturnedSo run_open = Unit {0}

  ends_so : (c : model.Called) (s : HostState) → I s → CalledSo (ends_as c s)
  ends_so (model.called status g) s are = are
  ends_so (model.called_trapped c left) s are = are
  ends_so (model.called_spent left) s are = are
  ends_so model.called_open s are = tt

  serving_so : (place : ℕ) (s : HostState) (p : Program Hosted) → I s → AllDone (Good s.contexts place) p → AllDone CalledSo (serve_calls place s p)
  serving_so place s p are all =
      all_bind (Good s.contexts place) CalledSo p (λ h. done (served_as place s h)) all (λ h e. ends_so h.called (host_state (put h.changes place s.contexts) (s.lines ++ h.lines)) (serves place s h are e))

  wasi_serves : (c : WasiCall) (place now : ℕ) (s : HostState) (args : List Value) (g : GuestAt) → I s → AllDone CalledSo (serve_calls place s (wasi_hosting c now place (map number_of args) g (seen s.contexts place)))
  wasi_serves c place now s args g are = serving_so place s (wasi_hosting c now place (map number_of args) g (seen s.contexts place)) are (wasi_good c now place (map number_of args) g s are)

  wasi_so : (c : WasiCall) (place now : ℕ) (s : HostState) (args : List Value) (g : GuestAt) → I s → AllDone CalledSo (wasi_call c place now s args g)
  wasi_so wasi.ProcExit place now s args g are = are
  wasi_so wasi.FdWrite place now s args g are = wasi_serves wasi.FdWrite place now s args g are
  wasi_so wasi.ClockTimeGet place now s args g are = wasi_serves wasi.ClockTimeGet place now s args g are
  wasi_so wasi.RandomGet place now s args g are = wasi_serves wasi.RandomGet place now s args g are
  wasi_so wasi.EnvironGet place now s args g are = wasi_serves wasi.EnvironGet place now s args g are
  wasi_so wasi.ArgsGet place now s args g are = wasi_serves wasi.ArgsGet place now s args g are
  wasi_so wasi.EnvironSizesGet place now s args g are = wasi_serves wasi.EnvironSizesGet place now s args g are
  wasi_so wasi.ArgsSizesGet place now s args g are = wasi_serves wasi.ArgsSizesGet place now s args g are

  target_so : (t : ImportTarget) (place now : ℕ) (s : HostState) (args : List Value) (g : GuestAt) → I s → AllDone CalledSo (by_target t place now s args g)
  target_so (target.Proxy c) place now s args g are = serving_so place s (hosting c now place (map number_of args) g (seen s.contexts place)) are (env_good c now place (map number_of args) g s are)
  target_so target.OtherProxy place now s args g are = are
  target_so target.MemoryGrowth place now s args g are = are
  target_so (target.Wasi c) place now s args g are = wasi_so c place now s args g are
  target_so target.OtherWasi place now s args g are = are

  found_so : (o : Option ImportTarget) (place now : ℕ) (s : HostState) (args : List Value) (g : GuestAt) → I s → AllDone CalledSo (by_found o place now s args g)
  found_so None place now s args g are = tt
  found_so (Some t) place now s args g are = target_so t place now s args g are

  dispatched_so : (d : Dispatcher) (now : ℕ) (s : HostState) (x : ℕ) (args : List Value) (g : GuestAt) → I s → AllDone CalledSo (dispatching d now s x args g)
  unfolding dispatching
  dispatched_so d now s x args g are = found_so (slice_get d.targets x) d.place now s args g are

  -- ---- a run

  module _ (abi : Abi HostState) (each : (s : HostState) (x : ℕ) (args : List Value) (g : GuestAt) → I s → AllDone CalledSo (abi s x args g)) where
    served_so : (c : Called HostState) (go : GuestAt → HostState → Program (Returned HostState)) → ((g : GuestAt) (s : HostState) → I s → AllDone ReturnedSo (go g s)) → CalledSo c → AllDone ReturnedSo (serve_result c go)
    served_so (called v g s) go all are = all _ s are
    served_so (call_trapped c left s) go all are = are
    served_so (call_spent left s) go all are = are
    served_so call_open go all are = tt

    run_so : (r : Stopped) (g : GuestAt) (s : HostState) (go : GuestAt → HostState → Program (Returned HostState)) → ((d : GuestAt) (t : HostState) → I t → AllDone ReturnedSo (go d t)) → I s
        → AllDone ReturnedSo (running_by abi r g s go)
    run_so (has_finished v d left) g s go all are = are
    run_so (has_asked x args d left) g s go all are =
        all_bind CalledSo ReturnedSo (abi s x args (asked_at x d left g)) (λ c. serve_result c go) (each s x args (asked_at x d left g) are) (λ c e. served_so c go all e)
    run_so (has_trapped c left) g s go all are = are
    run_so (has_spent left) g s go all are = are
    run_so goes_on g s go all are = tt
    run_so is_stuck g s go all are = tt

    runs_so : (k : ℕ) (g : GuestAt) (s : HostState) → I s → AllDone ReturnedSo (running abi k g s)
    unfolding running
    runs_so zero g s are = tt
    runs_so (suc k) g s are = run_so (run g.program g.fuel g.config) g s (λ d t. running abi k d t) (λ d t e. runs_so k d t e) are

  -- ---- callbacks

  abbrev RanSo : Ran → Type 0
  RanSo r = I r.state

  ran_so : (v : VmAt) (s : HostState) (r : Returned HostState) → I s → ReturnedSo r → RanSo (ran_as v s r)
  ran_so v s (returned x g t) before are = are
  ran_so v s (run_trapped c left t) before are = are
  ran_so v s (run_spent left t) before are = are
  ran_so v s run_open before are = before

  function_so : (v : VmAt) (now f : ℕ) (args : List Value) (s : HostState) → I s → AllDone RanSo (vms.running v now f args s)
  unfolding vms.running
  function_so v now f args s are =
      all_bind ReturnedSo RanSo (calling_back (dispatching v.calls now) f args (with_budget v) s) (λ r. done (ran_as v s r))
      (runs_so (dispatching v.calls now) (λ t x a g e. dispatched_so v.calls now t x a g e) _ _ s are) (λ r e. ran_so v s r are e)

  function_if_so : (v : VmAt) (now : ℕ) (o : Option ℕ) (args : List Value) (s : HostState) → I s → AllDone RanSo (running_if v now o args s)
  function_if_so v now None args s are = are
  function_if_so v now (Some f) args s are = function_so v now f args s are

  begins_so : (now : ℕ) (o : Option VmAt) (r : Ran) → RanSo r → AllDone RanSo (begins_then now o r)
  begins_so now None r are = are
  begins_so now (Some v) r are = function_if_so v now (beginner_in v.functions) [] r.state are

  effective_so : (place e : ℕ) (s : HostState) → I s → I (host_state (made_effective place e s.contexts) s.lines)
  effective_so place e s are =
      by_bool (λ (h : Contexts). I (host_state h s.lines)) (contains e (seen s.contexts place).common.ids) (put (record no_changes { effective = Some e }) place s.contexts) s.contexts (λ d. wakes place e s are) (λ d. are)

  calls_so : (v : VmAt) (now : ℕ) (o : Option ℕ) (r : Role) (context first second : ℕ) (s : HostState) → I s → AllDone RanSo (calling_if v now o r context first second s)
  calls_so v now None r context first second s are = are
  calls_so v now (Some f) r context first second s are = function_so v now f _ _ (effective_so v.calls.place context s are)

  role_so : (o : Option Role) (v : VmAt) (now context first second : ℕ) (s : HostState) → I s → AllDone RanSo (by_role o v now context first second s)
  role_so None v now context first second s are = all_bind RanSo RanSo (running_if v now v.start [] s) (λ r. begins_then now r.vm r) (function_if_so v now v.start [] s are) (λ r e. begins_so now r.vm r e)
  role_so (Some r) v now context first second s are = calls_so v now _ r context first second s are

  abbrev CameSo : Came → Type 0
  CameSo c = I (host_state c.contexts c.lines)

  live_so : (v : VmAt) (name : Callback) (context first second now : ℕ) (h : Contexts) → I (host_state h []) → AllDone CameSo (calling_live v name context first second now h)
  unfolding calling_live
  live_so v name context first second now h are =
      all_bind RanSo CameSo (by_role (role_of name) v now context first second (host_state h [])) (λ r. done (came_of r)) (role_so (role_of name) v now context first second (host_state h []) are) (λ r e. e)

  slot_so : (most : ℕ) (o : Option VmAt) (name : Callback) (context first second now : ℕ) (h : Contexts) → I (host_state h []) → AllDone CameSo (calling_slot most o name context first second now h)
  unfolding calling_slot
  slot_so most None name context first second now h are = are
  slot_so most (Some v) name context first second now h are =
      by_bool (AllDone CameSo) (is_at_home most v.calls.place h) (calling_live v name context first second now h) (done (silent (Some v) h)) (λ e. live_so v name context first second now h are) (λ e. are)

  pub vms_keep : (v : Vms) (vm : ℕ) (name : Callback) (context first second now : ℕ) (h : Contexts) → I (host_state h []) → AllDone (λ (c : course.Called Vms). I (host_state c.contexts c.lines)) (slots.calling v vm name context first second now h)
  unfolding slots.calling
  vms_keep v vm name context first second now h are =
      by_bool (AllDone (λ (c : course.Called Vms). I (host_state c.contexts c.lines))) (nat_lt vm (length v.slots)) _ _
      (λ e. all_bind CameSo (λ (c : course.Called Vms). I (host_state c.contexts c.lines)) (calling_slot (length v.slots) (slot_in v vm).live name context first second now h) _
      (slot_so (length v.slots) (slot_in v vm).live name context first second now h are) (λ c d. d)) (λ e. are)
