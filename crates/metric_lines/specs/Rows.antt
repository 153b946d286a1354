-- Worked examples of the lines.
use Rattle.std.specs.Prelude.{◌≡◌, ℕ, ◌++◌, List, [], ◌∷◌, codes}
use Rattle.store_model.specs.declared.metric.MetricKind.{MetricKind}
use Rattle.store_model.specs.declared.metric.MetricKind.TheVariants.{Counter, Gauge}
use Rattle.metric_lines.specs.Lines.{metric_lines}
use Rattle.metric_lines.specs.Totals.{in_order}
use Rattle.metric_lines.specs.declared.totals.MetricTotal.{MetricTotal}

abbrev pub metric : MetricKind → List ℕ → ℕ → MetricTotal
metric kind name total = record { kind = kind; name = name; total = total }

-- a counter and a gauge of one name
abbrev pub counter_and_gauge_told : Type 0
counter_and_gauge_told = metric_lines (codes "m1") (in_order (metric Counter (codes "n") 12 ∷ metric Gauge (codes "n") 9 ∷ [])) ≡ codes "metric m1 counter 6e 12\n" ++ codes "metric m1 gauge 6e 9\n"

-- Four metrics in the order of their ids, and in that of their lines: by kind, then by name, of which one begins another.
abbrev pub told_in_order : Type 0
told_in_order =
    in_order (metric Gauge (codes "a") 1 ∷ metric Counter (codes "b") 2 ∷ metric Counter (codes "ab") 3 ∷ metric Counter (codes "a") 4 ∷ [])
    ≡ metric Counter (codes "a") 4 ∷ metric Counter (codes "ab") 3 ∷ metric Counter (codes "b") 2 ∷ metric Gauge (codes "a") 1 ∷ []

-- nothing to tell
abbrev pub no_metrics_told : Type 0
no_metrics_told = metric_lines (codes "m1") (in_order []) ≡ []

-- the bounds of a total, and a name of bytes that are no text
abbrev pub bounds_told : Type 0
bounds_told = metric_lines (codes "m") (in_order (metric Counter (0 ∷ 255 ∷ []) 18446744073709551615 ∷ metric Gauge (10 ∷ []) 0 ∷ [])) ≡ codes "metric m counter 00ff 18446744073709551615\n" ++ codes "metric m gauge 0a 0\n"
