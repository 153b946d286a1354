use Rattle.wasm_syntax.proofs.RunLaws.{fuel_only_bounds}
use Rattle.wasm_syntax.proofs.reduction_laws.fuel_only_bounds.Goals as goal

pub returns : goal.returns
returns c = fuel_only_bounds
