-- Worked examples: the answers to some asks of the metrics of a VM name, in order, and each bound from both sides.
use Rattle.std.specs.Prelude.{◌≡◌, ℕ, ◌-◌, ◌^◌, List, [], ◌∷◌, replicate, pos, negsuc}
use Rattle.store_model.specs.Metrics.{applied_ask, known_to, new_metric, total, with_word}
use Rattle.store_model.specs.declared.metric.Metric.{Metric}
use Rattle.store_model.specs.declared.metric.MetricAsk.{MetricAsk}
use Rattle.store_model.specs.declared.metric.MetricAsk.TheVariants.{Define, Add, Put, Sum}
use Rattle.store_model.specs.declared.metric.MetricKind.TheVariants.{Counter, Gauge}
use Rattle.store_model.specs.declared.metric.MetricReply.{MetricReply}
use Rattle.store_model.specs.declared.metric.MetricReply.TheVariants.{Unknown, BadKind, Full, Id, Done, Total}

-- an ask of a worker
pub record AskBy : Type 0 where
  pub who : ℕ
  pub ask : MetricAsk

abbrev pub from : ℕ → MetricAsk → AskBy
from who asked = record { who = who; ask = asked }

abbrev pub sums_from : List Metric → List AskBy → List MetricReply
sums_from ms [] = []
sums_from ms (a ∷ later) = (applied_ask ms a.who a.ask).reply ∷ sums_from (applied_ask ms a.who a.ask).metrics later

abbrev pub metrics_from : List Metric → List AskBy → List Metric
metrics_from ms [] = ms
metrics_from ms (a ∷ later) = metrics_from (applied_ask ms a.who a.ask).metrics later

-- Two workers count under "n", and one of them gauges under the same name.
abbrev pub two_workers : List AskBy
two_workers =
    from 1 (Define Counter (110 ∷ [])) ∷ from 2 (Define Counter (110 ∷ [])) ∷ from 2 (Define Gauge (110 ∷ [])) ∷ from 1 (Add 1 (pos 5)) ∷ from 2 (Add 1 (pos 7)) ∷ from 1 (Sum 1) ∷ from 2 (Add 1 (negsuc 0)) ∷ from 1 (Put 2 3) ∷ from 2 (Put 2 9) ∷ []

abbrev pub counter_and_gauge : Type 0
counter_and_gauge = sums_from [] two_workers ≡ Id 1 ∷ Id 1 ∷ Id 2 ∷ Done ∷ Done ∷ Total 12 ∷ BadKind ∷ Unknown ∷ Done ∷ []

-- An id that this worker was not given is unknown, as is 0, and the first one past those that were given.
abbrev pub unknown_ids : Type 0
unknown_ids = sums_from [] (from 1 (Define Counter (110 ∷ [])) ∷ from 2 (Sum 1) ∷ from 1 (Sum 0) ∷ from 1 (Sum 2) ∷ from 1 (Sum 1) ∷ from 1 (Add 2 (pos 1)) ∷ from 2 (Put 1 1) ∷ []) ≡ Id 1 ∷ Unknown ∷ Unknown ∷ Unknown ∷ Total 0 ∷ Unknown ∷ Unknown ∷ []

-- With 63 metrics one more is taken, with 64 none, and those that are there are still given their ids.
abbrev pub sixty_four_metrics : Type 0
sixty_four_metrics =
    (sums_from (replicate 63 (new_metric Counter (120 ∷ []))) (from 1 (Define Counter (110 ∷ [])) ∷ from 1 (Define Gauge (110 ∷ [])) ∷ from 2 (Define Counter (110 ∷ [])) ∷ []) ≡ Id 64 ∷ Full ∷ Id 64 ∷ [])
    × (metrics_from (replicate 64 (new_metric Counter (120 ∷ []))) (from 1 (Define Gauge (120 ∷ [])) ∷ []) ≡ replicate 64 (new_metric Counter (120 ∷ [])))

-- one metric, which worker 1 knows, and of which it has this word
abbrev pub counter_at : ℕ → List Metric
counter_at word = with_word (known_to 1 (new_metric Counter (110 ∷ []))) 1 word ∷ []

abbrev pub gauge_at : ℕ → List Metric
gauge_at word = with_word (known_to 1 (new_metric Gauge (110 ∷ []))) 1 word ∷ []

-- A counter's word comes to 2^64 - 1, by an Add or a Put, and no further.
abbrev pub counters_end : Type 0
counters_end =
    (sums_from (counter_at (2 ^ 64 - 2)) (from 1 (Add 1 (pos 1)) ∷ from 1 (Add 1 (pos 1)) ∷ from 1 (Put 1 1) ∷ from 1 (Add 1 (pos 0)) ∷ from 1 (Sum 1) ∷ []) ≡ Done ∷ Full ∷ Full ∷ Done ∷ Total (2 ^ 64 - 1) ∷ [])
    × (sums_from (counter_at (2 ^ 64 - 2)) (from 1 (Put 1 1) ∷ from 1 (Put 1 1) ∷ []) ≡ Done ∷ Full ∷ [])
    × (metrics_from (counter_at (2 ^ 64 - 1)) (from 1 (Add 1 (pos 1)) ∷ from 1 (Put 1 1) ∷ from 1 (Add 1 (negsuc 0)) ∷ []) ≡ counter_at (2 ^ 64 - 1))

-- A gauge goes round at both ends, and so does a sum.
abbrev pub gauges_wrap : Type 0
gauges_wrap =
    (sums_from (gauge_at 0) (from 1 (Add 1 (negsuc 0)) ∷ from 1 (Sum 1) ∷ from 1 (Add 1 (pos 2)) ∷ from 1 (Sum 1) ∷ from 1 (Put 1 7) ∷ from 1 (Sum 1) ∷ []) ≡ Done ∷ Total (2 ^ 64 - 1) ∷ Done ∷ Total 1 ∷ Done ∷ Total 7 ∷ [])
    × (total (with_word (with_word (new_metric Counter (110 ∷ [])) 1 (2 ^ 64 - 1)) 8 2) ≡ 1)
