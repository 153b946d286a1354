use Rattle.wasm_numeric.proofs.Readings.{low, high, back}
use Rattle.wasm_numeric.proofs.laws.readings_are_twos_complement.Goals as goal

pub returns : goal.returns
returns c = record {
  low = low;
  high = high;
  back = back;
}
