use Rattle.wasm_syntax.proofs.WorkedRuns.{echoes, from_outside}
use Rattle.wasm_syntax.proofs.reduction_laws.worked_host_calls.Goals as goal

pub returns : goal.returns
returns c = record {
  asked = echoes;
  invoked = from_outside;
}
