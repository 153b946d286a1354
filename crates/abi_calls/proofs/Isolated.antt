-- Isolation of every host call.
use Rattle.std.proofs.Common.{ap}
use Rattle.contexts.proofs.Isolation.{is_isolated}
use Rattle.abi_calls.specs.Hosting.{hosting, wasi_hosting}
use Rattle.abi_calls.specs.Isolation.{HostCallsAreIsolated}

pub are_isolated : HostCallsAreIsolated
are_isolated = record {
  env = λ call now vm e args g h k same. ap (hosting call now vm args g) same;
  wasi = λ call now vm e args g h k same. ap (wasi_hosting call now vm args g) same;
  after = λ changes vm e h k within there same. is_isolated (λ s. changes) vm e h k within there same;
}
