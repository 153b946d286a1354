use Rattle.wasm_invoke.proofs.Worked.{begun, without, stopped}
use Rattle.wasm_invoke.proofs.laws.worked_starts.Goals as goal

pub returns : goal.returns
returns c = record { begun = begun; without = without; stopped = stopped }
