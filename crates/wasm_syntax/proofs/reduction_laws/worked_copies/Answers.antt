use Rattle.std.proofs.Common.{refl}
use Rattle.wasm_syntax.specs.Nested.{nests}
use Rattle.wasm_syntax.specs.ReductionRuns.{walk}
use Rattle.wasm_syntax.proofs.reduction_laws.worked_copies.Goals as goal

pub returns : goal.returns
unfolding walk nests
returns c = record {
  apart = refl;
  upward = refl;
  downward = refl;
  onto_itself = refl;
  to_the_end = refl;
  from_the_end = refl;
  past_the_end = refl;
  from_past_the_end = refl;
  none_at_the_end = refl;
  none_past_the_end = refl;
  none_from_past_the_end = refl;
  without_wrapping = refl;
  spent = refl;
  spent_before_the_trap = refl;
}
