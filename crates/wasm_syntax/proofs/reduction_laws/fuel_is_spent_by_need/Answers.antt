use Rattle.wasm_syntax.proofs.SpentLaws.{spent_by_need}
use Rattle.wasm_syntax.proofs.reduction_laws.fuel_is_spent_by_need.Goals as goal

pub returns : goal.returns
returns c = spent_by_need
