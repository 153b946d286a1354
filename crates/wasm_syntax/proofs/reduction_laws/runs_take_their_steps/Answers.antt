use Rattle.wasm_syntax.proofs.RunLaws.{runs_to_its_end}
use Rattle.wasm_syntax.proofs.reduction_laws.runs_take_their_steps.Goals as goal

pub returns : goal.returns
returns c = runs_to_its_end
