-- What a call of the tables does, as a call of a guest's host.
use Rattle.std.proofs.Common.{◌≡◌, ◌<◌, ℕ, zero, suc, List, [], ◌∷◌, length, map, Some, refl, sym, ap, ◌∙◌, subst, arith}
use Rattle.std.specs.Prelude.{slice_index_or}
use Rattle.std.proofs.Math.ListN.{length-set}
use Rattle.gate_base.specs.declared.cause.Cause.{Cause}
use Rattle.gate_io.specs.declared.event.Sent.{Sent}
use Rattle.wasm_syntax.specs.declared.types.Value.{Value}
use Rattle.wasm_syntax.specs.declared.types.Value.TheVariants.{I32}
use Rattle.wasm_flat.specs.Holds.{types_of}
use Rattle.store_model.specs.Made.{Made}
use Rattle.store_model.specs.Program.{Program, done, bind, Runs}
use Rattle.store_model.specs.Runs.{runs_as, runs_bind}
use Rattle.contexts.specs.declared.parts.Contexts.{Contexts}
use Rattle.contexts.specs.Reached.{Changes, put}
use Rattle.abi_types.specs.GuestAt.{GuestAt}
use Rattle.abi_model.specs.declared.table.Param.{Param}
use Rattle.abi_model.specs.declared.ends.HostEnd.TheVariants as host_end
use Rattle.abi_model.specs.Table.{Are}
use Rattle.abi_calls.specs.Hosting.{Hosted, HasEnded, WasCut}
use Rattle.abi_links.specs.Judging.{types_in}
use Rattle.abi_links.specs.Numbers.{number_of, IsWithin, AreWithin}
use Rattle.abi_links.proofs.Typed.{are_typed}
use Rattle.vm_host.specs.HostStates.{host_state}
use Rattle.vm_host.specs.Calling.{called, call_trapped, call_spent}
use Rattle.vm_host.specs.Dispatching.{ends_as, served_as, serve_calls}

module _ {S : Type 0} (performs : S → List Made → S → Type 0) (place : ℕ) (h : Contexts) (old : List Sent) (p : Program Hosted) (s t : S) (g : GuestAt) (k : Contexts) (new : List Sent) where
  pub served_status : (n : ℕ) → HasEnded performs s p place h (host_end.Status n) g k old new t → Runs performs s (serve_calls place (host_state h old) p) (done (called (Some (I32 n)) g (host_state k new))) t
  served_status n e =
      runs_as (runs_bind performs (λ x. done (served_as place (host_state h old) x)) e.run) (λ i. done (ends_as (e.called i) (host_state (sym e.contexts i) (sym e.lines i))))

  pub served_trapped : (c : Cause) → HasEnded performs s p place h (host_end.Trapped c) g k old new t → Runs performs s (serve_calls place (host_state h old) p) (done (call_trapped c g.fuel (host_state k new))) t
  served_trapped c e =
      runs_as (runs_bind performs (λ x. done (served_as place (host_state h old) x)) e.run) (λ i. done (ends_as (e.called i) (host_state (sym e.contexts i) (sym e.lines i))))

  pub served_spent : HasEnded performs s p place h host_end.FuelSpent g k old new t → Runs performs s (serve_calls place (host_state h old) p) (done (call_spent g.fuel (host_state k new))) t
  served_spent e =
      runs_as (runs_bind performs (λ x. done (served_as place (host_state h old) x)) e.run) (λ i. done (ends_as (e.called i) (host_state (sym e.contexts i) (sym e.lines i))))

  pub served_cut : WasCut performs s p h k old new t → (q : Program _) × Runs performs s (serve_calls place (host_state h old) p) q t
  served_cut cut = (bind cut.rest (λ x. done (served_as place (host_state h old) x)), runs_bind performs (λ x. done (served_as place (host_state h old) x)) cut.run)

-- as many VMs as before
pub as_many : (c : Changes) (vm : ℕ) (h k : Contexts) → k ≡ put c vm h → length k.vms ≡ length h.vms
as_many c vm h k is = ap (λ (x : Contexts). length x.vms) is ∙ simp length-set refl

-- ---- arguments

within_all : (vs : List Value) → ((k : ℕ) → k < length vs → IsWithin (slice_index_or vs k (I32 0))) → AreWithin vs
within_all [] each = tt
within_all (v ∷ vs) each = (each zero (omega arith), within_all vs (λ k lt. each (suc k) (omega (arith, lt))))

pub are_arguments : (ps : List Param) (vs : List Value) (ns : List ℕ) → ns ≡ map number_of vs → types_of vs ≡ types_in ps → ((k : ℕ) → k < length vs → IsWithin (slice_index_or vs k (I32 0))) → Are ps 0 ns
are_arguments ps vs ns is types each = subst (λ (ms : List ℕ). Are ps 0 ms) (sym is) (are_typed ps vs types (within_all vs each))
