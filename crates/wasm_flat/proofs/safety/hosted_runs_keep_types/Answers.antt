use Rattle.wasm_flat.proofs.Hosted.{hosted_is_never_stuck}
use Rattle.wasm_flat.proofs.safety.hosted_runs_keep_types.Goals as goal

pub returns : goal.returns
returns c d = hosted_is_never_stuck _
