-- Isolation of every host call by its name.
use Rattle.std.specs.Prelude.{◌≡◌, ◌<◌, ℕ, List, length}
use Rattle.abi_types.specs.GuestAt.{GuestAt}
use Rattle.contexts.specs.declared.parts.Contexts.{Contexts}
use Rattle.contexts.specs.Reached.{Changes, seen_of, put_of}
use Rattle.abi_calls.specs.Hosting.{hosting, wasi_hosting}
use Rattle.abi_model.specs.declared.table.HostCall.{HostCall}
use Rattle.abi_model.specs.declared.table.WasiCall.{WasiCall}

-- two hosts that look the same to the effective context: the same calls on the stores, and for equal replies the same end, the same
-- lines and the same changes
pub record HostCallsAreIsolated : Type 0 where
  pub env :
      (call : HostCall) (now vm e : ℕ) (args : List ℕ) (g : GuestAt) (h k : Contexts) → seen_of h vm e ≡ seen_of k vm e
      → hosting call now vm args g (seen_of h vm e) ≡ hosting call now vm args g (seen_of k vm e)
  pub wasi :
      (call : WasiCall) (now vm e : ℕ) (args : List ℕ) (g : GuestAt) (h k : Contexts) → seen_of h vm e ≡ seen_of k vm e
      → wasi_hosting call now vm args g (seen_of h vm e) ≡ wasi_hosting call now vm args g (seen_of k vm e)
  -- and with equal changes they look the same to the same context afterwards
  pub after :
      (changes : Changes) (vm e : ℕ) (h k : Contexts) → vm < length h.vms → vm < length k.vms → seen_of h vm e ≡ seen_of k vm e
      → seen_of (put_of changes vm e h) vm e ≡ seen_of (put_of changes vm e k) vm e
