-- The end of a call as that of any call.
use Rattle.std.proofs.Common.{◌≡◌, ◌<◌, ℕ, zero, suc, List, [], ◌∷◌, ◌++◌, length, Option, None, Some, refl, sym, ap, ◌∙◌, subst, arith}
use Rattle.std.specs.Prelude.{slice_set, slice_index_or}
use Rattle.std.proofs.lemmas.List.{append-nil}
use Rattle.gate_io.specs.declared.event.Sent.{Sent}
use Rattle.store_model.specs.Made.{Made}
use Rattle.store_model.specs.Program.{Program, done, bind, Runs}
use Rattle.store_model.specs.Runs.{runs_none, runs_bind}
use Rattle.abi_types.specs.GuestAt.{GuestAt}
use Rattle.contexts.specs.declared.parts.Contexts.{Contexts}
use Rattle.contexts.specs.declared.parts.Context.{Context}
use Rattle.contexts.specs.declared.parts.ExchangeEntry.{ExchangeEntry}
use Rattle.contexts.specs.Reached.{Seen, no_changes, put, vm_in, context_in, no_vm, exchanges_by, exchanges_after, contexts_after}
use Rattle.abi_model.specs.Asking.{AskingEnds}
use Rattle.abi_model.specs.Calls.{Called, called, called_trapped, called_spent, Does, CallEnds, Ends}
use Rattle.abi_model.specs.Writing.{Writes, LogEnds}
use Rattle.abi_model.specs.declared.ends.HostEnd.{HostEnd}
use Rattle.abi_model.specs.declared.ends.HostEnd.TheVariants.{Status, Trapped, FuelSpent, OutOfMemory}
use Rattle.abi_model.specs.declared.table.HostCall.{HostCall}
use Rattle.abi_model.specs.declared.table.WasiCall.{WasiCall}
use Rattle.abi_calls.specs.Hosting.{of_does, of_writes, of_called, hosting, wasi_hosting, HasEnded, HostedEnds}

-- ---- nothing is changed

same_contexts : (e : ℕ) (o : Option Context) (cs : List Context) → contexts_after no_changes e o cs ≡ cs
same_contexts e None cs = refl
same_contexts e (Some c) cs = refl

same_exchange : (n : Option ℕ) (xs : List (Option ExchangeEntry)) → exchanges_by no_changes n xs ≡ xs
same_exchange None xs = refl
same_exchange (Some n) xs = refl

same_exchanges : (o : Option Context) (xs : List (Option ExchangeEntry)) → exchanges_after no_changes o xs ≡ xs
same_exchanges None xs = refl
same_exchanges (Some c) xs = same_exchange c.exchange xs

set_same : {A : Type 0} (xs : List A) (i : ℕ) (d : A) → i < length xs → slice_set xs i (slice_index_or xs i d) ≡ xs
set_same [] i d h = absurd (omega (arith, h))
set_same (x ∷ xs) zero d h = refl
set_same (x ∷ xs) (suc i) d h = ap (λ ys. x ∷ ys) (set_same xs i d (omega (arith, h)))

nothing_put : (vm : ℕ) (h : Contexts) → vm < length h.vms → put no_changes vm h ≡ h
nothing_put vm h within =
    let v = vm_in h vm in
    (λ i. record h {
      vms = slice_set h.vms vm (record v { contexts = same_contexts v.effective (context_in h vm v.effective) v.contexts i });
      exchanges = same_exchanges (context_in h vm v.effective) h.exchanges i;
      effects = append-nil h.effects i;
    })
    ∙ (λ i. record h { vms = set_same h.vms vm no_vm within i })

-- ---- the three kinds of calls

module _ {S : Type 0} (performs : S → List Made → S → Type 0) (nothing : (x : S) → performs x [] x) (vm : ℕ) (h : Contexts) (g : GuestAt) (old : List Sent) where
  none_more : old ≡ old ++ []
  none_more = sym (append-nil old)

  pub local_hosted : (d : Does) (end : HostEnd) (k : Contexts) (s : S) → Ends d vm h end g k → HostedEnds performs s (done (of_does d)) vm h end g k old old s
  local_hosted d (Status n) k s ends = record { hosted = of_does d; run = runs_none performs nothing s (done (of_does d)); called = ends.called; contexts = ends.contexts; lines = none_more }
  local_hosted d (Trapped c) k s ends = record { hosted = of_does d; run = runs_none performs nothing s (done (of_does d)); called = ends.called; contexts = ends.contexts; lines = none_more }
  local_hosted d FuelSpent k s ends = record { hosted = of_does d; run = runs_none performs nothing s (done (of_does d)); called = ends.called; contexts = ends.contexts; lines = none_more }
  local_hosted d OutOfMemory k s ends = record { rest = done (of_does d); run = runs_none performs nothing s (done (of_does d)); contexts = ends.contexts; lines = refl }

  pub writing_hosted : vm < length h.vms → (w : Writes) (end : HostEnd) (new : List Sent) (s : S) → CallEnds w.called end g → LogEnds w.lines end old new
      → HostedEnds performs s (done (of_writes w)) vm h end g h old new s
  writing_hosted within w (Status n) new s ends lines = record { hosted = of_writes w; run = runs_none performs nothing s (done (of_writes w)); called = ends; contexts = sym (nothing_put vm h within); lines = lines }
  writing_hosted within w (Trapped c) new s ends lines = record { hosted = of_writes w; run = runs_none performs nothing s (done (of_writes w)); called = ends; contexts = sym (nothing_put vm h within); lines = lines }
  writing_hosted within w FuelSpent new s ends lines = record { hosted = of_writes w; run = runs_none performs nothing s (done (of_writes w)); called = ends; contexts = sym (nothing_put vm h within); lines = lines }
  writing_hosted within w OutOfMemory new s ends lines = record { rest = done (of_writes w); run = runs_none performs nothing s (done (of_writes w)); contexts = refl; lines = lines }

  told : vm < length h.vms → (c : Called) (end : HostEnd) (p : Program Called) (s t : S) → Runs performs s p (done c) t → CallEnds c end g
      → HasEnded performs s (bind p (λ x. done (of_called x))) vm h end g h old old t
  told within c end p s t run ends = record { hosted = of_called c; run = runs_bind performs (λ x. done (of_called x)) run; called = ends; contexts = sym (nothing_put vm h within); lines = none_more }

  pub asking_hosted : vm < length h.vms → (p : Program Called) (end : HostEnd) (s t : S) → AskingEnds performs s p end g t
      → HostedEnds performs s (bind p (λ c. done (of_called c))) vm h end g h old old t
  asking_hosted within p (Status n) s t run = told within (called n g) (Status n) p s t run refl
  asking_hosted within p (Trapped c) s t run = told within (called_trapped c g.fuel) (Trapped c) p s t run refl
  asking_hosted within p FuelSpent s t run = told within (called_spent g.fuel) FuelSpent p s t run refl
  asking_hosted within p OutOfMemory s t cut = record { rest = bind cut.0 (λ c. done (of_called c)); run = runs_bind performs (λ c. done (of_called c)) cut.1; contexts = refl; lines = refl }

-- ---- by the name of the call

module _ {S : Type 0} (performs : S → List Made → S → Type 0) (s t : S) (now vm : ℕ) (args : List ℕ) (at : GuestAt) (sees : Seen) (h k : Contexts) (end : HostEnd) (g : GuestAt) (old new : List Sent) where
  pub as_called : (call row : HostCall) → call ≡ row → HostedEnds performs s (hosting row now vm args at sees) vm h end g k old new t
      → HostedEnds performs s (hosting call now vm args at sees) vm h end g k old new t
  as_called call row same ends = subst (λ (c : HostCall). HostedEnds performs s (hosting c now vm args at sees) vm h end g k old new t) (sym same) ends

  pub as_wasi_called : (call row : WasiCall) → call ≡ row → HostedEnds performs s (wasi_hosting row now vm args at sees) vm h end g k old new t
      → HostedEnds performs s (wasi_hosting call now vm args at sees) vm h end g k old new t
  as_wasi_called call row same ends = subst (λ (c : WasiCall). HostedEnds performs s (wasi_hosting c now vm args at sees) vm h end g k old new t) (sym same) ends
