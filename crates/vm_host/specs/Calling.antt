-- A callback: the run of an export, with each host call answered by what it does.
use Rattle.std.specs.Prelude.{ℕ, zero, suc, List, [], ◌∷◌, drop, Option, None, Some}
use Rattle.gate_base.specs.declared.cause.Cause.{Cause}
use Rattle.wasm_syntax.specs.declared.types.Value.{Value}
use Rattle.wasm_syntax.specs.ReductionSteps.{Config, answered_config}
use Rattle.wasm_syntax.specs.ReductionRuns.{Stopped, has_finished, has_asked, has_trapped, has_spent, goes_on, is_stuck, run, enough}
use Rattle.wasm_flat.specs.Sound.{IsAnswer}
use Rattle.wasm_syntax.specs.declared.types.ValueType.{ValueType}
use Rattle.store_model.specs.Made.{Made}
use Rattle.store_model.specs.Program.{Program, done, bind, Runs}
use Rattle.abi_types.specs.GuestAt.{GuestAt, Waiting, invoked_at}
use Rattle.vm_host.specs.declared.calls.CallEnd.{CallEnd}
use Rattle.vm_host.specs.declared.calls.CallEnd.TheVariants as end
use Rattle.vm_host.specs.declared.calls.RunEnd.{RunEnd}
use Rattle.vm_host.specs.declared.calls.RunEnd.TheVariants as back

-- how a host call ended
pub data Called (H : Type 0) : Type 0 where
  called : Option Value → GuestAt → H → Called H
  call_trapped : Cause → (left : ℕ) → H → Called H
  call_spent : (left : ℕ) → H → Called H
  call_open : Called H

-- how a callback ended
pub data Returned (H : Type 0) : Type 0 where
  returned : Option Value → GuestAt → H → Returned H
  run_trapped : Cause → (left : ℕ) → H → Returned H
  run_spent : (left : ℕ) → H → Returned H
  run_open : Returned H

-- what each call of the host does, by its import
abbrev pub Abi : Type 0 → Type 0
Abi H = H → ℕ → List Value → GuestAt → Program (Called H)

-- ---- the guest while it runs

abbrev pub now_asked : Option ℕ → List Waiting → List Waiting
now_asked o [] = []
now_asked o (w ∷ ws) = record { function = w.function; asked = o } ∷ ws

abbrev pub asked_at : ℕ → Config → ℕ → GuestAt → GuestAt
asked_at x d n g = record g { config = d; fuel = n; waiting = now_asked (Some x) g.waiting }

abbrev pub answered_at : Option Value → GuestAt → GuestAt
answered_at v g = record g { config = answered_config v g.config; waiting = now_asked None g.waiting }

abbrev pub finished_at : Config → ℕ → GuestAt → GuestAt
finished_at d n g = record g { config = d; fuel = n; waiting = drop 1 g.waiting }

abbrev pub begun_at : ℕ → List Value → GuestAt → GuestAt
begun_at f args g = record g { config = invoked_at f args g; waiting = record { function = f; asked = None } ∷ g.waiting }

-- ---- THE RUN

abbrev pub serve_result : {H : Type 0} → Called H → (GuestAt → H → Program (Returned H)) → Program (Returned H)
serve_result (called v g h) go = go (answered_at v g) h
serve_result (call_trapped c n h) go = done (run_trapped c n h)
serve_result (call_spent n h) go = done (run_spent n h)
serve_result call_open go = done run_open

abbrev pub running_by : {H : Type 0} → Abi H → Stopped → GuestAt → H → (GuestAt → H → Program (Returned H)) → Program (Returned H)
running_by abi (has_finished v d n) g h go = done (returned v (finished_at d n g) h)
running_by abi (has_asked x args d n) g h go = bind (abi h x args (asked_at x d n g)) (λ c. serve_result c go)
running_by abi (has_trapped c n) g h go = done (run_trapped c n h)
running_by abi (has_spent n) g h go = done (run_spent n h)
running_by abi goes_on g h go = done run_open
running_by abi is_stuck g h go = done run_open

-- with at most so many host calls
unfoldable pub running : {H : Type 0} → Abi H → ℕ → GuestAt → H → Program (Returned H)
running abi zero g h = done run_open
running abi (suc k) g h = running_by abi (run g.program g.fuel g.config) g h (λ d i. running abi k d i)

-- THE CALLBACK: the call of a function with these arguments. Where the host is asked there is less left to run, so there
-- are no more host calls than that.
abbrev pub calling_back : {H : Type 0} → Abi H → ℕ → List Value → GuestAt → H → Program (Returned H)
calling_back abi f args g h = running abi (enough g.fuel (invoked_at f args g)) (begun_at f args g) h

-- ---- as the code tells it

abbrev pub CallEnds : {S H : Type 0} → (S → List Made → S → Type 0) → S → Program (Called H) → CallEnd → GuestAt → H → S → Type 0
CallEnds performs s p (end.Answered v) g h t = Runs performs s p (done (called v g h)) t
CallEnds performs s p (end.Trapped c) g h t = Runs performs s p (done (call_trapped c g.fuel h)) t
CallEnds performs s p end.FuelSpent g h t = Runs performs s p (done (call_spent g.fuel h)) t
CallEnds performs s p end.OutOfMemory g h t = (q : Program _) × Runs performs s p q t

abbrev pub StillAfter : CallEnd → Type 0 → Type 0
StillAfter (end.Answered v) still = still
StillAfter (end.Trapped c) still = Unit {0}
StillAfter end.FuelSpent still = Unit {0}
StillAfter end.OutOfMemory still = Unit {0}

abbrev pub AnswerFits : CallEnd → List ValueType → Type 0
AnswerFits (end.Answered v) ts = IsAnswer ts v
AnswerFits (end.Trapped c) ts = Unit {0}
AnswerFits end.FuelSpent ts = Unit {0}
AnswerFits end.OutOfMemory ts = Unit {0}

abbrev pub ReturnsAs : {S H : Type 0} → (S → List Made → S → Type 0) → S → Program (Returned H) → RunEnd → GuestAt → H → S → Type 0
ReturnsAs performs s p (back.Returned v) g h t = Runs performs s p (done (returned v g h)) t
ReturnsAs performs s p (back.Trapped c) g h t = Runs performs s p (done (run_trapped c g.fuel h)) t
ReturnsAs performs s p back.FuelSpent g h t = Runs performs s p (done (run_spent g.fuel h)) t
ReturnsAs performs s p back.OutOfMemory g h t = (q : Program _) × Runs performs s p q t

-- it may be called again, where it returned
abbrev pub RestsAfterRun : RunEnd → Type 0 → Type 0
RestsAfterRun (back.Returned v) ready = ready
RestsAfterRun (back.Trapped c) ready = Unit {0}
RestsAfterRun back.FuelSpent ready = Unit {0}
RestsAfterRun back.OutOfMemory ready = Unit {0}
