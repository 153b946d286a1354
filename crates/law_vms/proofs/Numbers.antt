-- The numbers of callbacks, by computation.
use Rattle.std.proofs.Common.{refl}
use Rattle.law_vms.specs.Numbers.{NumberExamples}

pub number_examples : NumberExamples
number_examples = record {
  answered = refl;
  failed = refl;
  fields = refl;
  trailers = refl;
  tick = refl;
  bytes = refl;
}
