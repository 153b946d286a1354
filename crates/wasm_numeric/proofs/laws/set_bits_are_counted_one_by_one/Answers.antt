use Rattle.std.proofs.Common.{refl}
use lib.Count.{ones_step}
use Rattle.wasm_numeric.proofs.laws.set_bits_are_counted_one_by_one.Goals as goal

pub returns : goal.returns
unfolding lib.Count.ones
returns c = record {
  all = ones_step;
  none = refl;
}
