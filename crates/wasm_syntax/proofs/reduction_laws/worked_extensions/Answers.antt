use Rattle.std.proofs.Common.{refl}
use Rattle.wasm_syntax.specs.Nested.{nests}
use Rattle.wasm_syntax.specs.ReductionRuns.{walk}
use Rattle.wasm_syntax.proofs.reduction_laws.worked_extensions.Goals as goal

pub returns : goal.returns
unfolding walk nests
returns c = record {
  most = refl;
  least = refl;
  above = refl;
  most_of_16 = refl;
  least_of_16 = refl;
  long_most = refl;
  long_least = refl;
  long_most_of_16 = refl;
  long_least_of_16 = refl;
  long_most_of_32 = refl;
  long_least_of_32 = refl;
}
