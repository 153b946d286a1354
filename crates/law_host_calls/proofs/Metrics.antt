-- The rows of these examples hold by computation.
use Rattle.std.proofs.Common.{refl}
use Rattle.law_host_calls.specs.Metrics.{MetricNames, MetricWords}

pub metric_names : MetricNames
metric_names = record {
  counter = refl;
  gauge = refl;
  full = refl;
  not_built = refl;
  histogram = refl;
  no_such_type = refl;
  unnamed = refl;
  name_outside = refl;
  place_outside = refl;
}

pub metric_words : MetricWords
metric_words = record {
  rises = refl;
  falls = refl;
  no_metric = refl;
  counter_falls = refl;
  past_all = refl;
  recorded = refl;
  recorded_nowhere = refl;
  recorded_past_all = refl;
  sum = refl;
  no_sum = refl;
  sum_outside = refl;
}
