-- The calls on metrics: what they ask of the metrics of the caller, VM 2, and what they make of the reply.
use Rattle.std.specs.Prelude.{◌≡◌, ℕ, pos, negsuc, [], ◌∷◌, ◌++◌, codes}
use Rattle.abi_calls.specs.Hosting.{Hosted}
use Rattle.abi_model.specs.declared.table.HostCall.TheVariants as call
use Rattle.store_model.specs.Program.{Program, done}
use Rattle.store_model.specs.declared.metric.MetricAsk.TheVariants as metric
use Rattle.store_model.specs.declared.metric.MetricKind.TheVariants.{Counter, Gauge}
use Rattle.store_model.specs.declared.metric.MetricReply.TheVariants as reply
use Rattle.law_host_calls.specs.Scenes.{calls, answers, writes, measured, by_metrics}

-- the name `cde`, and the place 8 for its id
abbrev pub defines : (type : ℕ) → Program Hosted
defines type = calls call.DefineMetric (type ∷ 2 ∷ 3 ∷ 8 ∷ [])

pub record MetricNames : Type 0 where
  pub counter : by_metrics (reply.Id 7) (defines 0) ≡ measured 2 (metric.Define Counter (codes "cde")) (done (writes (codes "abcdefgh" ++ 7 ∷ 0 ∷ 0 ∷ 0 ∷ codes "mnopqrstuvwx")))
  pub gauge : by_metrics (reply.Id 7) (defines 1) ≡ measured 2 (metric.Define Gauge (codes "cde")) (done (writes (codes "abcdefgh" ++ 7 ∷ 0 ∷ 0 ∷ 0 ∷ codes "mnopqrstuvwx")))
  pub full : by_metrics reply.Full (defines 1) ≡ measured 2 (metric.Define Gauge (codes "cde")) (answers 10)
  pub not_built : by_metrics reply.NotBuilt (defines 1) ≡ measured 2 (metric.Define Gauge (codes "cde")) (answers 12)
  -- histograms are left out
  pub histogram : defines 2 ≡ answers 12
  pub no_such_type : defines 3 ≡ answers 2
  -- a name of no bytes, whatever the type
  pub unnamed : calls call.DefineMetric (2 ∷ 3 ∷ 0 ∷ 8 ∷ []) ≡ answers 2
  pub name_outside : calls call.DefineMetric (1 ∷ 22 ∷ 3 ∷ 8 ∷ []) ≡ answers 6
  pub place_outside : calls call.DefineMetric (1 ∷ 2 ∷ 3 ∷ 21 ∷ []) ≡ answers 6

pub record MetricWords : Type 0 where
  -- metric 7 by 5, and by 1 less: the offset has a sign
  pub rises : by_metrics reply.Done (calls call.IncrementMetric (7 ∷ 5 ∷ [])) ≡ measured 2 (metric.Add 7 (pos 5)) (answers 0)
  pub falls : by_metrics reply.Done (calls call.IncrementMetric (7 ∷ 18446744073709551615 ∷ [])) ≡ measured 2 (metric.Add 7 (negsuc 0)) (answers 0)
  pub no_metric : by_metrics reply.Unknown (calls call.IncrementMetric (7 ∷ 5 ∷ [])) ≡ measured 2 (metric.Add 7 (pos 5)) (answers 1)
  pub counter_falls : by_metrics reply.BadKind (calls call.IncrementMetric (7 ∷ 5 ∷ [])) ≡ measured 2 (metric.Add 7 (pos 5)) (answers 2)
  pub past_all : by_metrics reply.Full (calls call.IncrementMetric (7 ∷ 5 ∷ [])) ≡ measured 2 (metric.Add 7 (pos 5)) (answers 10)
  pub recorded : by_metrics reply.Done (calls call.RecordMetric (7 ∷ 5 ∷ [])) ≡ measured 2 (metric.Put 7 5) (answers 0)
  pub recorded_nowhere : by_metrics reply.Unknown (calls call.RecordMetric (7 ∷ 5 ∷ [])) ≡ measured 2 (metric.Put 7 5) (answers 1)
  pub recorded_past_all : by_metrics reply.Full (calls call.RecordMetric (7 ∷ 5 ∷ [])) ≡ measured 2 (metric.Put 7 5) (answers 10)
  -- 1,000 in eight bytes, the lowest first
  pub sum : by_metrics (reply.Total 1000) (calls call.GetMetric (7 ∷ 4 ∷ [])) ≡ measured 2 (metric.Sum 7) (done (writes (codes "abcd" ++ 232 ∷ 3 ∷ 0 ∷ 0 ∷ 0 ∷ 0 ∷ 0 ∷ 0 ∷ codes "mnopqrstuvwx")))
  pub no_sum : by_metrics reply.Unknown (calls call.GetMetric (7 ∷ 4 ∷ [])) ≡ measured 2 (metric.Sum 7) (answers 1)
  pub sum_outside : calls call.GetMetric (7 ∷ 17 ∷ []) ≡ answers 6
