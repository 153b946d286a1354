use Rattle.wasm_syntax.proofs.RunLaws.{hosted_runs_to_its_end}
use Rattle.wasm_syntax.proofs.reduction_laws.hosted_runs_take_their_steps.Goals as goal

pub returns : goal.returns
returns c d = hosted_runs_to_its_end _
