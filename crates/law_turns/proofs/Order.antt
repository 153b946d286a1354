-- What comes first, by computation.
use Rattle.std.proofs.Common.{refl}
use Rattle.law_turns.specs.Order.{StepExamples}

pub step_examples : StepExamples
step_examples = record { reading = refl; lowest_line = refl; job = refl; released = refl; end = refl; part = refl; nothing = refl }
