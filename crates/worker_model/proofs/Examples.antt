-- The worked examples, by computation.
use Rattle.std.proofs.Common.{refl}
use Rattle.worker_model.specs.Examples.{EventExamples}

pub event_examples : EventExamples
event_examples = record {
  of_client = λ room. refl;
  of_none = λ room. refl;
  of_callout = λ room. refl;
  of_another = λ room. refl;
  of_no_line = λ room. refl;
  is_due = λ room. refl;
  not_yet = λ room. refl;
  is_read = λ room. refl;
  is_called = λ room. refl;
}
