use Rattle.wasm_numeric.proofs.Moves.{rounds_down}
use Rattle.wasm_numeric.proofs.laws.signed_shifts_round_down.Goals as goal

pub returns : goal.returns
returns c = rounds_down
