use Rattle.wasm_numeric.proofs.Moves.{left, right}
use Rattle.wasm_numeric.proofs.laws.rotations_keep_all_bits.Goals as goal

pub returns : goal.returns
returns c = record {
  left = left;
  right = right;
}
