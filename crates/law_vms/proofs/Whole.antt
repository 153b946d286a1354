-- What each host call keeps is kept by a whole callback.
use Rattle.std.proofs.Common.{◌≡◌, ℕ, zero, suc, Bool, true, false, ◌++◌, Option, None, Some, subst, sym, if◌then◌else◌, List, [], slice_get, map}
use Rattle.abi_calls.specs.Hosting.{Hosted, hosting, wasi_hosting}
use Rattle.abi_model.specs.Calls as model
use Rattle.abi_model.specs.declared.table.HostCall.{HostCall}
use Rattle.abi_model.specs.declared.table.WasiCall.{WasiCall}
use Rattle.abi_model.specs.declared.table.WasiCall.TheVariants as wasi
use Rattle.abi_types.specs.GuestAt.{GuestAt}
use Rattle.contexts.specs.Reached.{Seen, seen, put, no_changes, contains}
use Rattle.contexts.specs.declared.parts.Contexts.{Contexts}
use Rattle.filter_host.specs.declared.host.Callback.{Callback}
use Rattle.abi_links.specs.Numbers.{number_of}
use Rattle.abi_links.specs.declared.target.ImportTarget.{ImportTarget}
use Rattle.abi_links.specs.declared.target.ImportTarget.TheVariants as target
use Rattle.store_model.specs.declared.call.Call.{Call}
use Rattle.store_model.specs.declared.metric.MetricAsk.{MetricAsk}
use Rattle.store_model.specs.Program.{Program, done}
use Rattle.vm_host.specs.Calling.{Called, called, call_trapped, call_spent, call_open, Returned, returned, run_trapped, run_spent, run_open, serve_result, running_by, running as runs, calling_back, asked_at, answered_at, begun_at}
use Rattle.vm_host.specs.Dispatching.{served_as, ends_as, serve_calls, wasi_call, by_target, by_found, dispatching}
use Rattle.vm_host.specs.HostStates.{HostState, host_state}
use Rattle.vm_host.specs.RoleTypes.{function_for, beginner_in, numbers_for, counts_at}
use Rattle.vm_host.specs.Slots.{Came, came_of, by_role, role_of, calling_live}
use Rattle.vm_host.specs.Vms.{VmAt, Ran, ran_as, with_budget, running, running_if, begins_then, calling_if, made_effective}
use Rattle.vm_host.specs.declared.dispatch.Dispatcher.{Dispatcher}
use Rattle.vm_host.specs.declared.roles.Role.{Role}
use Rattle.law_vms.proofs.Ends.{AllAlong, along_then}
use Rattle.wasm_syntax.specs.ReductionRuns.{Stopped, has_finished, has_asked, has_trapped, has_spent, goes_on, is_stuck, run, enough}
use Rattle.wasm_syntax.specs.declared.types.Value.{Value}

-- the calls of a machine that is left
abbrev pub HasCalls : Dispatcher → Option VmAt → Type 0
HasCalls d None = Unit {0}
HasCalls d (Some v) = v.calls ≡ d

abbrev pub CameKeeps : Dispatcher → (HostState → Type 0) → Came → Type 0
CameKeeps d I c = I (host_state c.contexts c.lines) × HasCalls d c.live

-- I is what is kept; Good is what is known of each host call, whatever it sees; C and M are what it may ask of the shared stores
module _ (d : Dispatcher) (C : ℕ → Call → Type 0) (M : ℕ → MetricAsk → Type 0) (I : HostState → Type 0) (Good : Seen → Hosted → Type 0)
    (serves : (s : HostState) (h : Hosted) → I s → Good (seen s.contexts d.place) h → I (host_state (put h.changes d.place s.contexts) (s.lines ++ h.lines)))
    (wakes : (s : HostState) (e : ℕ) → I s → I (host_state (put (record no_changes { effective = Some e }) d.place s.contexts) s.lines))
    (env_good : (c : HostCall) (now : ℕ) (args : List ℕ) (g : GuestAt) (s : HostState) → I s → AllAlong C M (Good (seen s.contexts d.place)) (hosting c now d.place args g (seen s.contexts d.place)))
    (wasi_good : (c : WasiCall) (now : ℕ) (args : List ℕ) (g : GuestAt) (s : HostState) → I s → AllAlong C M (Good (seen s.contexts d.place)) (wasi_hosting c now d.place args g (seen s.contexts d.place))) where
  -- ---- a host call

  abbrev CalledKeeps : Called HostState → Type 0
  CalledKeeps (called v g s) = I s
  CalledKeeps (call_trapped c n s) = I s
  CalledKeeps (call_spent n s) = I s
  CalledKeeps call_open = Unit {0}

  ends_keep : (c : model.Called) (s : HostState) → I s → CalledKeeps (ends_as c s)
  ends_keep (model.called status g) s is = is
  ends_keep (model.called_trapped c n) s is = is
  ends_keep (model.called_spent n) s is = is
  ends_keep model.called_open s is = tt

  serving_keeps : (s : HostState) (p : Program Hosted) → I s → AllAlong C M (Good (seen s.contexts d.place)) p → AllAlong C M CalledKeeps (serve_calls d.place s p)
  serving_keeps s p is good =
      along_then C M (Good (seen s.contexts d.place)) CalledKeeps p (λ h. done (served_as d.place s h)) good
      (λ h fits. ends_keep h.called (host_state (put h.changes d.place s.contexts) (s.lines ++ h.lines)) (serves s h is fits))

  wasi_serves : (c : WasiCall) (now : ℕ) (s : HostState) (args : List Value) (g : GuestAt) → I s
      → AllAlong C M CalledKeeps (serve_calls d.place s (wasi_hosting c now d.place (map number_of args) g (seen s.contexts d.place)))
  wasi_serves c now s args g is =
      serving_keeps s (wasi_hosting c now d.place (map number_of args) g (seen s.contexts d.place)) is (wasi_good c now (map number_of args) g s is)

  wasi_keeps : (c : WasiCall) (now : ℕ) (s : HostState) (args : List Value) (g : GuestAt) → I s → AllAlong C M CalledKeeps (wasi_call c d.place now s args g)
  wasi_keeps wasi.FdWrite now s args g is = wasi_serves wasi.FdWrite now s args g is
  wasi_keeps wasi.ClockTimeGet now s args g is = wasi_serves wasi.ClockTimeGet now s args g is
  wasi_keeps wasi.RandomGet now s args g is = wasi_serves wasi.RandomGet now s args g is
  wasi_keeps wasi.EnvironGet now s args g is = wasi_serves wasi.EnvironGet now s args g is
  wasi_keeps wasi.ArgsGet now s args g is = wasi_serves wasi.ArgsGet now s args g is
  wasi_keeps wasi.EnvironSizesGet now s args g is = wasi_serves wasi.EnvironSizesGet now s args g is
  wasi_keeps wasi.ArgsSizesGet now s args g is = wasi_serves wasi.ArgsSizesGet now s args g is
  wasi_keeps wasi.ProcExit now s args g is = is

  target_keeps : (k : ImportTarget) (now : ℕ) (s : HostState) (args : List Value) (g : GuestAt) → I s → AllAlong C M CalledKeeps (by_target k d.place now s args g)
  target_keeps (target.Proxy c) now s args g is = serving_keeps s (hosting c now d.place (map number_of args) g (seen s.contexts d.place)) is (env_good c now (map number_of args) g s is)
  target_keeps target.OtherProxy now s args g is = is
  target_keeps target.MemoryGrowth now s args g is = is
  target_keeps (target.Wasi c) now s args g is = wasi_keeps c now s args g is
  target_keeps target.OtherWasi now s args g is = is

  found_keeps : (o : Option ImportTarget) (now : ℕ) (s : HostState) (args : List Value) (g : GuestAt) → I s → AllAlong C M CalledKeeps (by_found o d.place now s args g)
  found_keeps None now s args g is = tt
  found_keeps (Some k) now s args g is = target_keeps k now s args g is

  call_keeps : (now : ℕ) (s : HostState) (x : ℕ) (args : List Value) (g : GuestAt) → I s → AllAlong C M CalledKeeps (dispatching d now s x args g)
  unfolding dispatching
  call_keeps now s x args g is = found_keeps (slice_get d.targets x) now s args g is

  -- ---- a run

  abbrev ReturnedKeeps : Returned HostState → Type 0
  ReturnedKeeps (returned v g s) = I s
  ReturnedKeeps (run_trapped c n s) = I s
  ReturnedKeeps (run_spent n s) = I s
  ReturnedKeeps run_open = Unit {0}

  served_keeps : (c : Called HostState) (go : GuestAt → HostState → Program (Returned HostState)) → ((g : GuestAt) (s : HostState) → I s → AllAlong C M ReturnedKeeps (go g s))
      → CalledKeeps c → AllAlong C M ReturnedKeeps (serve_result c go)
  served_keeps (called v g s) go next is = next (answered_at v g) s is
  served_keeps (call_trapped c n s) go next is = is
  served_keeps (call_spent n s) go next is = is
  served_keeps call_open go next is = tt

  by_keeps : (now : ℕ) (e : Stopped) (g : GuestAt) (s : HostState) (go : GuestAt → HostState → Program (Returned HostState))
      → ((g : GuestAt) (s : HostState) → I s → AllAlong C M ReturnedKeeps (go g s)) → I s → AllAlong C M ReturnedKeeps (running_by (dispatching d now) e g s go)
  by_keeps now (has_finished v c n) g s go next is = is
  by_keeps now (has_asked x args c n) g s go next is =
      along_then C M CalledKeeps ReturnedKeeps (dispatching d now s x args (asked_at x c n g)) (λ e. serve_result e go) (call_keeps now s x args (asked_at x c n g) is) (λ e kept. served_keeps e go next kept)
  by_keeps now (has_trapped c n) g s go next is = is
  by_keeps now (has_spent n) g s go next is = is
  by_keeps now goes_on g s go next is = tt
  by_keeps now is_stuck g s go next is = tt

  runs_keep : (now k : ℕ) (g : GuestAt) (s : HostState) → I s → AllAlong C M ReturnedKeeps (runs (dispatching d now) k g s)
  unfolding runs
  runs_keep now zero g s is = tt
  runs_keep now (suc k) g s is = by_keeps now (run g.program g.fuel g.config) g s (λ e t. runs (dispatching d now) k e t) (λ e t kept. runs_keep now k e t kept) is

  -- ---- a callback

  abbrev RanKeeps : Ran → Type 0
  RanKeeps r = I r.state × HasCalls d r.vm

  ran_keeps : (v : VmAt) (s : HostState) (r : Returned HostState) → v.calls ≡ d → I s → ReturnedKeeps r → RanKeeps (ran_as v s r)
  ran_keeps v s (returned x g h) same is kept = (kept, same)
  ran_keeps v s (run_trapped c n h) same is kept = (kept, tt)
  ran_keeps v s (run_spent n h) same is kept = (kept, tt)
  ran_keeps v s run_open same is kept = (is, tt)

  back_keeps : (c : Dispatcher) (now f : ℕ) (args : List Value) (g : GuestAt) (s : HostState) → c ≡ d → I s → AllAlong C M ReturnedKeeps (calling_back (dispatching c now) f args g s)
  back_keeps c now f args g s same is =
      subst (λ e. AllAlong C M ReturnedKeeps (calling_back (dispatching e now) f args g s)) (sym same)
      (runs_keep now (enough g.fuel (begun_at f args g).config) (begun_at f args g) s is)

  running_keeps : (v : VmAt) (now f : ℕ) (args : List Value) (s : HostState) → v.calls ≡ d → I s → AllAlong C M RanKeeps (running v now f args s)
  unfolding running
  running_keeps v now f args s same is =
      along_then C M ReturnedKeeps RanKeeps (calling_back (dispatching v.calls now) f args (with_budget v) s) (λ r. done (ran_as v s r))
      (back_keeps v.calls now f args (with_budget v) s same is) (λ r kept. ran_keeps v s r same is kept)

  running_if_keeps : (v : VmAt) (now : ℕ) (o : Option ℕ) (args : List Value) (s : HostState) → v.calls ≡ d → I s → AllAlong C M RanKeeps (running_if v now o args s)
  running_if_keeps v now None args s same is = (is, same)
  running_if_keeps v now (Some f) args s same is = running_keeps v now f args s same is

  begins_keeps : (now : ℕ) (o : Option VmAt) (r : Ran) → HasCalls d o → RanKeeps r → AllAlong C M RanKeeps (begins_then now o r)
  begins_keeps now None r same kept = kept
  begins_keeps now (Some v) r same kept = running_if_keeps v now (beginner_in v.functions) [] r.state same kept.0

  effective_if : (b : Bool) (e : ℕ) (s : HostState) → I s → I (host_state (if b then put (record no_changes { effective = Some e }) d.place s.contexts else s.contexts) s.lines)
  effective_if true e s is = wakes s e is
  effective_if false e s is = is

  effective_keeps : (c : Dispatcher) (e : ℕ) (s : HostState) → c ≡ d → I s → I (host_state (made_effective c.place e s.contexts) s.lines)
  effective_keeps c e s same is =
      subst (λ (f : Dispatcher). I (host_state (made_effective f.place e s.contexts) s.lines)) (sym same) (effective_if (contains e (seen s.contexts d.place).common.ids) e s is)

  calling_if_keeps : (v : VmAt) (now : ℕ) (o : Option ℕ) (r : Role) (context first second : ℕ) (s : HostState) → v.calls ≡ d → I s → AllAlong C M RanKeeps (calling_if v now o r context first second s)
  calling_if_keeps v now None r context first second s same is = (is, same)
  calling_if_keeps v now (Some f) r context first second s same is =
      running_keeps v now f (numbers_for r context first second (counts_at v.calls.place context s.contexts)) (host_state (made_effective v.calls.place context s.contexts) s.lines) same (effective_keeps v.calls context s same is)

  by_role_keeps : (o : Option Role) (v : VmAt) (now context first second : ℕ) (s : HostState) → v.calls ≡ d → I s → AllAlong C M RanKeeps (by_role o v now context first second s)
  by_role_keeps None v now context first second s same is =
      along_then C M RanKeeps RanKeeps (running_if v now v.start [] s) (λ r. begins_then now r.vm r) (running_if_keeps v now v.start [] s same is) (λ r kept. begins_keeps now r.vm r kept.1 kept)
  by_role_keeps (Some r) v now context first second s same is = calling_if_keeps v now (function_for v.functions r) r context first second s same is

  pub live_keeps : (v : VmAt) (name : Callback) (context first second now : ℕ) (h : Contexts) → v.calls ≡ d → I (host_state h [])
      → AllAlong C M (CameKeeps d I) (calling_live v name context first second now h)
  unfolding calling_live
  live_keeps v name context first second now h same is =
      along_then C M RanKeeps (CameKeeps d I) (by_role (role_of name) v now context first second (host_state h [])) (λ r. done (came_of r))
      (by_role_keeps (role_of name) v now context first second (host_state h []) same is) (λ r kept. kept)
