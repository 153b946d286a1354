use Rattle.wasm_flat.proofs.Unstuck.{flat_steps_follow_typed, flat_runs_follow_typed}
use Rattle.wasm_flat.proofs.safety.flat_runs_follow_typed.Goals as goal

pub returns : goal.returns
returns c = record { step = flat_steps_follow_typed; run = flat_runs_follow_typed }
