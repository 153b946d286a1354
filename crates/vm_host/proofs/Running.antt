-- Runs of a VM, as parts of what it does.
use Rattle.std.proofs.Common.{◌≡◌, ◌≢◌, ℕ, List, [], Option, None, Result, Ok, Err, refl}
use Rattle.std.specs.Prelude.{IsErr, IsOkAnd}
use Rattle.gate_base.specs.declared.cause.Cause.{Cause}
use Rattle.wasm_syntax.specs.declared.types.Value.{Value}
use Rattle.abi_types.specs.GuestAt.{GuestAt}
use Rattle.store_model.specs.Made.{Made}
use Rattle.store_model.specs.Program.{Program, done, bind, Runs, Ends}
use Rattle.store_model.specs.Runs.{runs_bind}
use Rattle.vm_host.specs.HostStates.{HostState}
use Rattle.vm_host.specs.declared.ended.LastRunEnd.{LastRunEnd}
use Rattle.vm_host.specs.declared.ended.LastRunEnd.TheVariants as ended
use Rattle.vm_host.specs.declared.calls.RunEnd.{RunEnd}
use Rattle.vm_host.specs.declared.calls.RunEnd.TheVariants as back
use Rattle.vm_host.specs.Calling.{Returned, ReturnsAs, run_trapped, run_spent, calling_back}
use Rattle.vm_host.specs.Dispatching.{dispatching}
use Rattle.vm_host.specs.Vms.{VmAt, Ran, ran, ran_as, with_budget, running, running_if, begins_then}

module _ {S : Type 0} (performs : S → List Made → S → Type 0) (v : VmAt) (now f : ℕ) (args : List Value) (h : HostState) (s t : S) where
  -- it ended so
  pub ran_part : (r : Returned HostState) → Runs performs s (calling_back (dispatching v.calls now) f args (with_budget v) h) (done r) t →
      Runs performs s (running v now f args h) (done (ran_as v h r)) t
  unfolding running
  ran_part r run = runs_bind performs (λ x. done (ran_as v h x)) run

  -- it was cut short
  pub ran_cut : ((q : Program (Returned HostState)) × Runs performs s (calling_back (dispatching v.calls now) f args (with_budget v) h) q t) →
      (q : Program Ran) × Runs performs s (running v now f args h) q t
  unfolding running
  ran_cut (q, run) = (bind q (λ x. done (ran_as v h x)), runs_bind performs (λ x. done (ran_as v h x)) run)

  -- the start function has run
  pub begun_part : (o : Option ℕ) (r : Ran) → Runs performs s (running_if v now o [] h) (done r) t → Runs performs s (bind (running_if v now o [] h) (λ x. begins_then now x.vm x)) (begins_then now r.vm r) t
  begun_part o r run = runs_bind performs (λ x. begins_then now x.vm x) run

  pub begun_cut : (o : Option ℕ) → ((q : Program Ran) × Runs performs s (running_if v now o [] h) q t) → (q : Program Ran) × Runs performs s (bind (running_if v now o [] h) (λ x. begins_then now x.vm x)) q t
  begun_cut o (q, run) = (bind q (λ x. begins_then now x.vm x), runs_bind performs (λ x. begins_then now x.vm x) run)

  -- a run that did not return, by how it is told
  told_so : {B E : Type 0} (end_of : B → LastRunEnd) (vm_of : B → Option VmAt) (g : HostState) (r : Result B E) (e : LastRunEnd) → IsOkAnd r (λ b. (end_of b ≡ e) × (vm_of b ≡ None)) →
      Runs performs s (running v now f args h) (done (ran e None g)) t → Ends performs s (running v now f args h) (λ b. ran (end_of b) (vm_of b) g) r t
  told_so end_of vm_of g (Ok b) e k run = rw (k.0, k.1) run
  told_so end_of vm_of g (Err x) e k run = absurd k

  cut_so : {B E : Type 0} (view : B → Ran) (r : Result B E) → IsErr r → ((q : Program Ran) × Runs performs s (running v now f args h) q t) → Ends performs s (running v now f args h) view r t
  cut_so view (Ok b) k run = cc
  cut_so view (Err x) k run = run

  pub gone_ends : {B E : Type 0} (end_of : B → LastRunEnd) (vm_of : B → Option VmAt) (r : Result B E) (end : RunEnd) (guest : GuestAt) (g : HostState) → ((value : Option Value) → end ≢ back.Returned value) →
      ((cause : Cause) → end ≡ back.Trapped cause → IsOkAnd r (λ b. (end_of b ≡ ended.Trapped cause) × (vm_of b ≡ None))) → (end ≡ back.FuelSpent → IsOkAnd r (λ b. (end_of b ≡ ended.FuelSpent) × (vm_of b ≡ None))) →
      (end ≡ back.OutOfMemory → IsErr r) → ReturnsAs performs s (calling_back (dispatching v.calls now) f args (with_budget v) h) end guest g t → Ends performs s (running v now f args h) (λ b. ran (end_of b) (vm_of b) g) r t
  gone_ends end_of vm_of r (back.Returned value) guest g none trapped spent memory run = absurd (none value refl)
  gone_ends end_of vm_of r (back.Trapped cause) guest g none trapped spent memory run = told_so end_of vm_of g r (ended.Trapped cause) (trapped cause refl) (ran_part (run_trapped cause guest.fuel g) run)
  gone_ends end_of vm_of r back.FuelSpent guest g none trapped spent memory run = told_so end_of vm_of g r ended.FuelSpent (spent refl) (ran_part (run_spent guest.fuel g) run)
  gone_ends end_of vm_of r back.OutOfMemory guest g none trapped spent memory run = cut_so (λ b. ran (end_of b) (vm_of b) g) r (memory refl) (ran_cut run)
