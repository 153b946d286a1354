use Rattle.wasm_flat.proofs.Keeps.{reduction_keeps_types}
use Rattle.wasm_flat.proofs.safety.reductions_keep_types.Goals as goal

pub returns : goal.returns
returns c = reduction_keeps_types
