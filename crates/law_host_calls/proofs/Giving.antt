-- The rows of these examples hold by computation.
use Rattle.std.proofs.Common.{refl}
use Rattle.wasm_syntax.specs.ReductionRuns.{walk, walk_hosted}
use Rattle.law_host_calls.specs.Giving.{GivingExamples}

pub giving_examples : GivingExamples
unfolding walk walk_hosted
giving_examples = record {
  place_and_size = refl;
  size_and_place = refl;
  two_bytes = refl;
  no_bytes = refl;
  no_bytes_no_allocator = refl;
  place_zero = refl;
  outside = refl;
  at_the_end = refl;
  pointer_outside = refl;
  size_outside = refl;
  none = refl;
  trapped = refl;
  spent = refl;
  number = refl;
  last_number = refl;
  number_outside = refl;
}
