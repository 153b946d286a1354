use Rattle.std.proofs.Common.{refl}
use Rattle.wasm_syntax.specs.Nested.{nests}
use Rattle.wasm_syntax.specs.ReductionRuns.{walk}
use Rattle.wasm_syntax.proofs.reduction_laws.worked_prices.Goals as goal

pub returns : goal.returns
unfolding walk nests
returns c = record {
  copy_of_63 = refl;
  copy_of_64 = refl;
  copy_of_65 = refl;
  copy_of_127 = refl;
  copy_of_128 = refl;
  copy_of_64_short = refl;
  copy_of_128_short = refl;
  fill_of_63 = refl;
  fill_of_64 = refl;
  fill_of_65 = refl;
  fill_of_64_short = refl;
  fill_of_128_short = refl;
  trap_of_129 = refl;
  trap_of_128 = refl;
}
