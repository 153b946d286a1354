use Rattle.std.proofs.lemmas.Int.{quot-rem, rem_below}
use Rattle.wasm_syntax.specs.Operators.{signed}
use Rattle.wasm_numeric.proofs.Readings.{from_zero_on, up_to_zero}
use Rattle.wasm_numeric.proofs.laws.quotients_are_rounded_toward_zero.Goals as goal

pub returns : goal.returns
returns c = record {
  whole = λ t i j. quot-rem (signed t i) (signed t j);
  smaller = λ t i j. rem_below (signed t i) (signed t j);
  from_zero_on = λ t i j. from_zero_on (signed t i) (signed t j);
  up_to_zero = λ t i j. up_to_zero (signed t i) (signed t j);
}
