-- What all words of a metric come to.
use Rattle.std.specs.Prelude.{ℕ, ◌%◌, ◌^◌, List, map, sum, slice_index}
use Rattle.metric_table.specs.Places.{place_of}
use Rattle.store_model.specs.MetricLaws.{workers}
use Rattle.store_model.specs.declared.metric.MetricKind.{MetricKind}

-- THE TOTAL of a metric: the sum of the words of the workers 1 to 8, modulo 2^64
abbrev pub total_in : List ℕ → MetricKind → ℕ → ℕ
total_in words kind id = sum (map (λ who. slice_index words (place_of who kind id)) workers) % 2 ^ 64
