-- Two runs of a callback go in step where they see the same.
use Rattle.std.proofs.Common.{◌≡◌, ℕ, zero, suc, ◌<◌, Bool, true, false, length, ◌++◌, Option, None, Some, refl, ap, subst, sym, if◌then◌else◌, List, [], slice_get, map}
use Rattle.abi_calls.specs.Hosting.{Hosted, hosting, wasi_hosting}
use Rattle.abi_model.specs.Calls as model
use Rattle.abi_model.specs.declared.table.WasiCall.{WasiCall}
use Rattle.abi_model.specs.declared.table.WasiCall.TheVariants as wasi
use Rattle.abi_types.specs.GuestAt.{GuestAt}
use Rattle.contexts.specs.Reached.{Seen, Changes, seen, put, no_changes, contains}
use Rattle.contexts.specs.declared.parts.Contexts.{Contexts}
use Rattle.filter_host.specs.declared.host.Callback.{Callback}
use Rattle.gate_io.specs.declared.event.Sent.{Sent}
use Rattle.abi_links.specs.Numbers.{number_of}
use Rattle.abi_links.specs.declared.target.ImportTarget.{ImportTarget}
use Rattle.abi_links.specs.declared.target.ImportTarget.TheVariants as target
use Rattle.store_model.specs.Program.{Program, done, ask, measure, bind}
use Rattle.vm_host.specs.Calling.{Called, called, call_trapped, call_spent, call_open, Returned, returned, run_trapped, run_spent, run_open, serve_result, running_by, running as runs, calling_back, asked_at, answered_at, begun_at}
use Rattle.vm_host.specs.Dispatching.{served_as, ends_as, serve_calls, wasi_call, by_target, by_found, dispatching}
use Rattle.vm_host.specs.HostStates.{HostState, host_state}
use Rattle.vm_host.specs.RoleTypes.{function_for, beginner_in, numbers_for, counts_of, counts_at}
use Rattle.vm_host.specs.Slots.{Came, came_of, end_of, by_role, role_of, calling_live}
use Rattle.vm_host.specs.Vms.{VmAt, Ran, ran, ran_as, number_of as number_returned, with_budget, running, running_if, begins_then, calling_if, made_effective}
use Rattle.vm_host.specs.declared.dispatch.Dispatcher.{Dispatcher}
use Rattle.vm_host.specs.declared.ended.LastRunEnd.TheVariants as ended
use Rattle.vm_host.specs.declared.roles.Role.{Role}
use Rattle.vm_host.specs.declared.vm.Counts.{Counts}
use Rattle.law_vms.proofs.Looking.{seen_same_of, seen_same, put_same}
use Rattle.law_vms.proofs.OwnChanges.{put_own}
use Rattle.law_vms.proofs.Whole.{HasCalls}
use Rattle.law_vms.specs.OwnChanges.{ChangesItsOwn}
use Rattle.law_vms.specs.SeesItsOwn.{InStep, LookTheSame}
use Rattle.wasm_syntax.specs.ReductionRuns.{Stopped, has_finished, has_asked, has_trapped, has_spent, goes_on, is_stuck, run, enough}
use Rattle.wasm_syntax.specs.declared.types.Value.{Value}

-- ---- programs that are made of two

pub step_then : {A B C D : Type 0} (P : A → B → Type 0) (Q : C → D → Type 0) (p : Program A) (q : Program B) (f : A → Program C) (g : B → Program D)
    → InStep P p q → ((a : A) (b : B) → P a b → InStep Q (f a) (g b)) → InStep Q (bind p f) (bind q g)
step_then P Q (done a) (done b) f g is next = next a b is
step_then P Q (done a) (ask wm other l) f g is next = absurd is
step_then P Q (done a) (measure wm other l) f g is next = absurd is
step_then P Q (ask vm call k) (done b) f g is next = absurd is
step_then P Q (ask vm call k) (ask wm other l) f g is next = (is.0, is.1, λ r. step_then P Q (k r) (l r) f g (is.2 r) next)
step_then P Q (ask vm call k) (measure wm other l) f g is next = absurd is
step_then P Q (measure vm asked k) (done b) f g is next = absurd is
step_then P Q (measure vm asked k) (ask wm other l) f g is next = absurd is
step_then P Q (measure vm asked k) (measure wm other l) f g is next = (is.0, is.1, λ r. step_then P Q (k r) (l r) f g (is.2 r) next)

-- one program, with two ends
pub step_same : {A C D : Type 0} (Q : C → D → Type 0) (p : Program A) (f : A → Program C) (g : A → Program D) → ((a : A) → InStep Q (f a) (g a)) → InStep Q (bind p f) (bind p g)
step_same Q (done a) f g next = next a
step_same Q (ask vm call k) f g next = (refl, refl, λ r. step_same Q (k r) f g next)
step_same Q (measure vm asked k) f g next = (refl, refl, λ r. step_same Q (k r) f g next)

pub step_weaker : {A B : Type 0} (P Q : A → B → Type 0) (p : Program A) (q : Program B) → InStep P p q → ((a : A) (b : B) → P a b → Q a b) → InStep Q p q
step_weaker P Q (done a) (done b) is so = so a b is
step_weaker P Q (done a) (ask wm other l) is so = absurd is
step_weaker P Q (done a) (measure wm other l) is so = absurd is
step_weaker P Q (ask vm call k) (done b) is so = absurd is
step_weaker P Q (ask vm call k) (ask wm other l) is so = (is.0, is.1, λ r. step_weaker P Q (k r) (l r) (is.2 r) so)
step_weaker P Q (ask vm call k) (measure wm other l) is so = absurd is
step_weaker P Q (measure vm asked k) (done b) is so = absurd is
step_weaker P Q (measure vm asked k) (ask wm other l) is so = absurd is
step_weaker P Q (measure vm asked k) (measure wm other l) is so = (is.0, is.1, λ r. step_weaker P Q (k r) (l r) (is.2 r) so)

-- ---- two hosts that look the same

pub record AreSame (vm : ℕ) (s t : HostState) : Type 0 where
  pub lines : s.lines ≡ t.lines
  pub contexts : LookTheSame vm s.contexts t.contexts
  pub here : vm < length s.contexts.vms
  pub there : vm < length t.contexts.vms

still_there : (c : Changes) (vm : ℕ) (h : Contexts) → vm < length h.vms → vm < length (put c vm h).vms
still_there c vm h there =
    let step : ChangesItsOwn vm h (put c vm h) = put_own c vm h there in
    subst (λ n. vm < n) (sym step.count) there

same_put : (vm : ℕ) (s t : HostState) (c : Changes) (ls ms : List Sent) → AreSame vm s t → ls ≡ ms → AreSame vm (host_state (put c vm s.contexts) ls) (host_state (put c vm t.contexts) ms)
same_put vm s t c ls ms same lines = record {
  lines = lines;
  contexts = put_same c vm s.contexts t.contexts same.here same.there same.contexts;
  here = still_there c vm s.contexts same.here;
  there = still_there c vm t.contexts same.there;
}

pub record CameSame (vm : ℕ) (c d : Came) : Type 0 where
  pub end : c.end ≡ d.end
  pub lines : c.lines ≡ d.lines
  pub live : c.live ≡ d.live
  pub contexts : LookTheSame vm c.contexts d.contexts

module _ (d : Dispatcher) where
  -- ---- a host call

  abbrev CalledSame : Called HostState → Called HostState → Type 0
  CalledSame (called v g s) (called w h t) = (v ≡ w) × (g ≡ h) × AreSame d.place s t
  CalledSame (call_trapped c n s) (call_trapped e m t) = (c ≡ e) × AreSame d.place s t
  CalledSame (call_spent n s) (call_spent m t) = AreSame d.place s t
  CalledSame call_open call_open = Unit {0}
  CalledSame _ _ = ⊥

  ends_same : (c : model.Called) (s t : HostState) → AreSame d.place s t → CalledSame (ends_as c s) (ends_as c t)
  ends_same (model.called status g) s t same = (refl, refl, same)
  ends_same (model.called_trapped c n) s t same = (refl, same)
  ends_same (model.called_spent n) s t same = same
  ends_same model.called_open s t same = tt

  served_same : (s t : HostState) (h : Hosted) → AreSame d.place s t → CalledSame (served_as d.place s h) (served_as d.place t h)
  served_same s t h same =
      ends_same h.called (host_state (put h.changes d.place s.contexts) (s.lines ++ h.lines)) (host_state (put h.changes d.place t.contexts) (t.lines ++ h.lines))
      (same_put d.place s t h.changes (s.lines ++ h.lines) (t.lines ++ h.lines) same (ap (λ ls. ls ++ h.lines) same.lines))

  hosted_same : (p : Seen → Program Hosted) (s t : HostState) → AreSame d.place s t
      → InStep CalledSame (serve_calls d.place s (p (seen s.contexts d.place))) (serve_calls d.place t (p (seen t.contexts d.place)))
  hosted_same p s t same =
      subst (λ x. InStep CalledSame (serve_calls d.place s (p (seen s.contexts d.place))) (serve_calls d.place t (p x))) (seen_same d.place s.contexts t.contexts same.contexts)
      (step_same CalledSame (p (seen s.contexts d.place)) (λ h. done (served_as d.place s h)) (λ h. done (served_as d.place t h)) (λ h. served_same s t h same))

  wasi_same : (c : WasiCall) (now : ℕ) (s t : HostState) (args : List Value) (g : GuestAt) → AreSame d.place s t
      → InStep CalledSame (wasi_call c d.place now s args g) (wasi_call c d.place now t args g)
  wasi_same wasi.FdWrite now s t args g same = hosted_same (wasi_hosting wasi.FdWrite now d.place (map number_of args) g) s t same
  wasi_same wasi.ClockTimeGet now s t args g same = hosted_same (wasi_hosting wasi.ClockTimeGet now d.place (map number_of args) g) s t same
  wasi_same wasi.RandomGet now s t args g same = hosted_same (wasi_hosting wasi.RandomGet now d.place (map number_of args) g) s t same
  wasi_same wasi.EnvironGet now s t args g same = hosted_same (wasi_hosting wasi.EnvironGet now d.place (map number_of args) g) s t same
  wasi_same wasi.ArgsGet now s t args g same = hosted_same (wasi_hosting wasi.ArgsGet now d.place (map number_of args) g) s t same
  wasi_same wasi.EnvironSizesGet now s t args g same = hosted_same (wasi_hosting wasi.EnvironSizesGet now d.place (map number_of args) g) s t same
  wasi_same wasi.ArgsSizesGet now s t args g same = hosted_same (wasi_hosting wasi.ArgsSizesGet now d.place (map number_of args) g) s t same
  wasi_same wasi.ProcExit now s t args g same = (refl, same)

  target_same : (k : ImportTarget) (now : ℕ) (s t : HostState) (args : List Value) (g : GuestAt) → AreSame d.place s t
      → InStep CalledSame (by_target k d.place now s args g) (by_target k d.place now t args g)
  target_same (target.Proxy c) now s t args g same = hosted_same (hosting c now d.place (map number_of args) g) s t same
  target_same target.OtherProxy now s t args g same = (refl, refl, same)
  target_same target.MemoryGrowth now s t args g same = (refl, refl, same)
  target_same (target.Wasi c) now s t args g same = wasi_same c now s t args g same
  target_same target.OtherWasi now s t args g same = (refl, refl, same)

  found_same : (o : Option ImportTarget) (now : ℕ) (s t : HostState) (args : List Value) (g : GuestAt) → AreSame d.place s t
      → InStep CalledSame (by_found o d.place now s args g) (by_found o d.place now t args g)
  found_same None now s t args g same = tt
  found_same (Some k) now s t args g same = target_same k now s t args g same

  call_same : (now : ℕ) (s t : HostState) (x : ℕ) (args : List Value) (g : GuestAt) → AreSame d.place s t
      → InStep CalledSame (dispatching d now s x args g) (dispatching d now t x args g)
  unfolding dispatching
  call_same now s t x args g same = found_same (slice_get d.targets x) now s t args g same

  -- ---- a run

  abbrev ReturnedSame : Returned HostState → Returned HostState → Type 0
  ReturnedSame (returned v g s) (returned w h t) = (v ≡ w) × (g ≡ h) × AreSame d.place s t
  ReturnedSame (run_trapped c n s) (run_trapped e m t) = (c ≡ e) × AreSame d.place s t
  ReturnedSame (run_spent n s) (run_spent m t) = AreSame d.place s t
  ReturnedSame run_open run_open = Unit {0}
  ReturnedSame _ _ = ⊥

  abbrev Next : Type 0
  Next = GuestAt → HostState → Program (Returned HostState)

  back_same : (b c : Called HostState) (go : Next) → ((g : GuestAt) (s t : HostState) → AreSame d.place s t → InStep ReturnedSame (go g s) (go g t))
      → CalledSame b c → InStep ReturnedSame (serve_result b go) (serve_result c go)
  back_same (called v g s) (called w h t) go next same =
      subst (λ x. InStep ReturnedSame (go (answered_at v g) s) (go x t)) (λ i. answered_at (same.0 i) (same.1 i)) (next (answered_at v g) s t same.2)
  back_same (called v g s) (call_trapped e m t) go next same = absurd same
  back_same (called v g s) (call_spent m t) go next same = absurd same
  back_same (called v g s) call_open go next same = absurd same
  back_same (call_trapped c n s) (called w h t) go next same = absurd same
  back_same (call_trapped c n s) (call_trapped e m t) go next same = same
  back_same (call_trapped c n s) (call_spent m t) go next same = absurd same
  back_same (call_trapped c n s) call_open go next same = absurd same
  back_same (call_spent n s) (called w h t) go next same = absurd same
  back_same (call_spent n s) (call_trapped e m t) go next same = absurd same
  back_same (call_spent n s) (call_spent m t) go next same = same
  back_same (call_spent n s) call_open go next same = absurd same
  back_same call_open (called w h t) go next same = absurd same
  back_same call_open (call_trapped e m t) go next same = absurd same
  back_same call_open (call_spent m t) go next same = absurd same
  back_same call_open call_open go next same = tt

  by_same : (now : ℕ) (e : Stopped) (g : GuestAt) (s t : HostState) (go : Next)
      → ((g : GuestAt) (s t : HostState) → AreSame d.place s t → InStep ReturnedSame (go g s) (go g t)) → AreSame d.place s t
      → InStep ReturnedSame (running_by (dispatching d now) e g s go) (running_by (dispatching d now) e g t go)
  by_same now (has_finished v c n) g s t go next same = (refl, refl, same)
  by_same now (has_asked x args c n) g s t go next same =
      step_then CalledSame ReturnedSame (dispatching d now s x args (asked_at x c n g)) (dispatching d now t x args (asked_at x c n g)) (λ e. serve_result e go) (λ e. serve_result e go)
      (call_same now s t x args (asked_at x c n g) same) (λ b c both. back_same b c go next both)
  by_same now (has_trapped c n) g s t go next same = (refl, same)
  by_same now (has_spent n) g s t go next same = same
  by_same now goes_on g s t go next same = tt
  by_same now is_stuck g s t go next same = tt

  runs_same : (now k : ℕ) (g : GuestAt) (s t : HostState) → AreSame d.place s t → InStep ReturnedSame (runs (dispatching d now) k g s) (runs (dispatching d now) k g t)
  unfolding runs
  runs_same now zero g s t same = tt
  runs_same now (suc k) g s t same =
      by_same now (run g.program g.fuel g.config) g s t (λ e u. runs (dispatching d now) k e u) (λ e u w both. runs_same now k e u w both) same

  -- ---- a callback

  record RanSame (q r : Ran) : Type 0 where
    end : q.end ≡ r.end
    vm : q.vm ≡ r.vm
    state : AreSame d.place q.state r.state
    calls : HasCalls d q.vm

  ran_same : (v : VmAt) (s t : HostState) (a b : Returned HostState) → v.calls ≡ d → AreSame d.place s t → ReturnedSame a b → RanSame (ran_as v s a) (ran_as v t b)
  ran_same v s t (returned x g h) (returned y e k) same are both = record { end = ap (λ o. ended.Returned (number_returned o)) both.0; vm = ap (λ (x : GuestAt). Some (record v { guest = x })) both.1; state = both.2; calls = same }
  ran_same v s t (returned x g h) (run_trapped e m k) same are both = absurd both
  ran_same v s t (returned x g h) (run_spent m k) same are both = absurd both
  ran_same v s t (returned x g h) run_open same are both = absurd both
  ran_same v s t (run_trapped c n h) (returned y e k) same are both = absurd both
  ran_same v s t (run_trapped c n h) (run_trapped e m k) same are both = record { end = ap ended.Trapped both.0; vm = refl; state = both.1; calls = tt }
  ran_same v s t (run_trapped c n h) (run_spent m k) same are both = absurd both
  ran_same v s t (run_trapped c n h) run_open same are both = absurd both
  ran_same v s t (run_spent n h) (returned y e k) same are both = absurd both
  ran_same v s t (run_spent n h) (run_trapped e m k) same are both = absurd both
  ran_same v s t (run_spent n h) (run_spent m k) same are both = record { end = refl; vm = refl; state = both; calls = tt }
  ran_same v s t (run_spent n h) run_open same are both = absurd both
  ran_same v s t run_open (returned y e k) same are both = absurd both
  ran_same v s t run_open (run_trapped e m k) same are both = absurd both
  ran_same v s t run_open (run_spent m k) same are both = absurd both
  ran_same v s t run_open run_open same are both = record { end = refl; vm = refl; state = are; calls = tt }

  back_again : (c : Dispatcher) (now f : ℕ) (args : List Value) (g : GuestAt) (s t : HostState) → c ≡ d → AreSame d.place s t
      → InStep ReturnedSame (calling_back (dispatching c now) f args g s) (calling_back (dispatching c now) f args g t)
  back_again c now f args g s t same are =
      subst (λ e. InStep ReturnedSame (calling_back (dispatching e now) f args g s) (calling_back (dispatching e now) f args g t)) (sym same)
      (runs_same now (enough g.fuel (begun_at f args g).config) (begun_at f args g) s t are)

  running_same : (v : VmAt) (now f : ℕ) (args : List Value) (s t : HostState) → v.calls ≡ d → AreSame d.place s t → InStep RanSame (running v now f args s) (running v now f args t)
  unfolding running
  running_same v now f args s t same are =
      step_then ReturnedSame RanSame (calling_back (dispatching v.calls now) f args (with_budget v) s) (calling_back (dispatching v.calls now) f args (with_budget v) t)
      (λ r. done (ran_as v s r)) (λ r. done (ran_as v t r)) (back_again v.calls now f args (with_budget v) s t same are) (λ a b both. ran_same v s t a b same are both)

  stays_same : (v : VmAt) (s t : HostState) → v.calls ≡ d → AreSame d.place s t → RanSame (ran (ended.Returned None) (Some v) s) (ran (ended.Returned None) (Some v) t)
  stays_same v s t same are = record { end = refl; vm = refl; state = are; calls = same }

  running_if_same : (v : VmAt) (now : ℕ) (o : Option ℕ) (args : List Value) (s t : HostState) → v.calls ≡ d → AreSame d.place s t → InStep RanSame (running_if v now o args s) (running_if v now o args t)
  running_if_same v now None args s t same are = stays_same v s t same are
  running_if_same v now (Some f) args s t same are = running_same v now f args s t same are

  begins_by : (now : ℕ) (o : Option VmAt) (q r : Ran) → HasCalls d o → RanSame q r → InStep RanSame (begins_then now o q) (begins_then now o r)
  begins_by now None q r same both = both
  begins_by now (Some v) q r same both = running_if_same v now (beginner_in v.functions) [] q.state r.state same both.state

  begins_same : (now : ℕ) (q r : Ran) → RanSame q r → InStep RanSame (begins_then now q.vm q) (begins_then now r.vm r)
  begins_same now q r both = subst (λ o. InStep RanSame (begins_then now q.vm q) (begins_then now o r)) both.vm (begins_by now q.vm q r both.calls both)

  effective_if : (b : Bool) (e : ℕ) (s t : HostState) → AreSame d.place s t
      → AreSame d.place (host_state (if b then put (record no_changes { effective = Some e }) d.place s.contexts else s.contexts) s.lines)
      (host_state (if b then put (record no_changes { effective = Some e }) d.place t.contexts else t.contexts) t.lines)
  effective_if true e s t are = same_put d.place s t (record no_changes { effective = Some e }) s.lines t.lines are are.lines
  effective_if false e s t are = are

  effective_same : (c : Dispatcher) (e : ℕ) (s t : HostState) → c ≡ d → AreSame d.place s t
      → AreSame d.place (host_state (made_effective c.place e s.contexts) s.lines) (host_state (made_effective c.place e t.contexts) t.lines)
  effective_same c e s t same are =
      let by = λ (x : Seen). contains e x.common.ids in
      subst (λ (f : Dispatcher). AreSame d.place (host_state (made_effective f.place e s.contexts) s.lines) (host_state (made_effective f.place e t.contexts) t.lines)) (sym same)
      (subst (λ b. AreSame d.place (host_state (made_effective d.place e s.contexts) s.lines) (host_state (if b then put (record no_changes { effective = Some e }) d.place t.contexts else t.contexts) t.lines))
      (ap by (seen_same d.place s.contexts t.contexts are.contexts))
      (effective_if (by (seen s.contexts d.place)) e s t are))

  counts_same : (c : Dispatcher) (e : ℕ) (s t : HostState) → c ≡ d → AreSame d.place s t → counts_at c.place e s.contexts ≡ counts_at c.place e t.contexts
  counts_same c e s t same are =
      subst (λ (f : Dispatcher). counts_at f.place e s.contexts ≡ counts_at f.place e t.contexts) (sym same)
      (ap (λ (x : Seen). counts_of x.reach.own) (seen_same_of d.place e s.contexts t.contexts are.contexts))

  calling_if_same : (v : VmAt) (now : ℕ) (o : Option ℕ) (r : Role) (context first second : ℕ) (s t : HostState) → v.calls ≡ d → AreSame d.place s t
      → InStep RanSame (calling_if v now o r context first second s) (calling_if v now o r context first second t)
  calling_if_same v now None r context first second s t same are = stays_same v s t same are
  calling_if_same v now (Some f) r context first second s t same are =
      subst (λ (q : Counts). InStep RanSame
      (running v now f (numbers_for r context first second (counts_at v.calls.place context s.contexts)) (host_state (made_effective v.calls.place context s.contexts) s.lines))
      (running v now f (numbers_for r context first second q) (host_state (made_effective v.calls.place context t.contexts) t.lines)))
      (counts_same v.calls context s t same are)
      (running_same v now f (numbers_for r context first second (counts_at v.calls.place context s.contexts)) (host_state (made_effective v.calls.place context s.contexts) s.lines) (host_state (made_effective v.calls.place context t.contexts) t.lines)
      same (effective_same v.calls context s t same are))

  by_role_same : (o : Option Role) (v : VmAt) (now context first second : ℕ) (s t : HostState) → v.calls ≡ d → AreSame d.place s t
      → InStep RanSame (by_role o v now context first second s) (by_role o v now context first second t)
  by_role_same None v now context first second s t same are =
      step_then RanSame RanSame (running_if v now v.start [] s) (running_if v now v.start [] t) (λ r. begins_then now r.vm r) (λ r. begins_then now r.vm r)
      (running_if_same v now v.start [] s t same are) (λ q r both. begins_same now q r both)
  by_role_same (Some r) v now context first second s t same are = calling_if_same v now (function_for v.functions r) r context first second s t same are

  came_same : (q r : Ran) → RanSame q r → CameSame d.place (came_of q) (came_of r)
  came_same q r both = record { end = ap end_of both.end; lines = both.state.lines; live = both.vm; contexts = both.state.contexts }

  pub live_same : (v : VmAt) (name : Callback) (context first second now : ℕ) (h k : Contexts) → v.calls ≡ d → AreSame d.place (host_state h []) (host_state k [])
      → InStep (CameSame d.place) (calling_live v name context first second now h) (calling_live v name context first second now k)
  unfolding calling_live
  live_same v name context first second now h k same are =
      step_then RanSame (CameSame d.place) (by_role (role_of name) v now context first second (host_state h [])) (by_role (role_of name) v now context first second (host_state k []))
      (λ r. done (came_of r)) (λ r. done (came_of r)) (by_role_same (role_of name) v now context first second (host_state h []) (host_state k []) same are) came_same
