use Rattle.law_host_calls.proofs.Wasi.{wasi_examples}
use Rattle.law_host_calls.proofs.laws.worked_wasi.Goals as goal

pub returns : goal.returns
returns c = wasi_examples
