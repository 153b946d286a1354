use Rattle.wasm_numeric.proofs.Moves.{lowest, no_lowest}
use Rattle.wasm_numeric.proofs.laws.trailing_zeros_stand_below_the_lowest_bit.Goals as goal

pub returns : goal.returns
returns c = record {
  lowest = lowest;
  none = no_lowest;
}
