use Rattle.wasm_numeric.proofs.Readings.{highest, none}
use Rattle.wasm_numeric.proofs.laws.leading_zeros_stand_above_the_highest_bit.Goals as goal

pub returns : goal.returns
returns c = record {
  highest = highest;
  none = none;
}
