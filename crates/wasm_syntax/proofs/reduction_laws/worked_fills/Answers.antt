use Rattle.std.proofs.Common.{refl}
use Rattle.wasm_syntax.specs.Nested.{nests}
use Rattle.wasm_syntax.specs.ReductionRuns.{walk}
use Rattle.wasm_syntax.proofs.reduction_laws.worked_fills.Goals as goal

pub returns : goal.returns
unfolding walk nests
returns c = record {
  low_byte = refl;
  to_the_end = refl;
  past_the_end = refl;
  none_at_the_end = refl;
  none_past_the_end = refl;
  last_of_128 = refl;
  spent = refl;
}
