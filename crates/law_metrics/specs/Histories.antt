-- Histories of asks of the metrics of a VM name.
use Rattle.std.specs.Prelude.{◌≡◌, ℕ, List, [], ◌∷◌}
use Rattle.store_model.specs.MetricLaws.{AskEntry}
use Rattle.store_model.specs.Metrics.{applied_ask, metric_in, share_of}
use Rattle.store_model.specs.declared.metric.Metric.{Metric}

-- the metrics after asks, in order
abbrev pub metrics_after : List Metric → List AskEntry → List Metric
metrics_after ms [] = ms
metrics_after ms (a ∷ later) = metrics_after (applied_ask ms a.who a.ask).metrics later

-- each reply is that of the rules over the asks before it
abbrev pub AreAnswered : List Metric → List AskEntry → Type 0
AreAnswered ms [] = Unit {0}
AreAnswered ms (a ∷ later) = (a.reply ≡ (applied_ask ms a.who a.ask).reply) × AreAnswered (applied_ask ms a.who a.ask).metrics later

-- a worker's word of the metric at a place, 0 where there is none
abbrev pub word_at : List Metric → ℕ → ℕ → ℕ
word_at ms k who = (share_of (metric_in ms k) who).word
