-- The lines that tell what metrics came to.
use Rattle.std.specs.Prelude.{ℕ, List, [], ◌∷◌, ◌++◌, codes, decimal}
use Rattle.hex.specs.Hex.{encode_lower}
use Rattle.store_model.specs.declared.metric.MetricKind.{MetricKind}
use Rattle.store_model.specs.declared.metric.MetricKind.TheVariants.{Counter, Gauge}
use Rattle.metric_lines.specs.declared.totals.MetricTotal.{MetricTotal}

abbrev pub kind_word : MetricKind → List ℕ
kind_word Counter = codes " counter "
kind_word Gauge = codes " gauge "

-- THE LINE of a metric: a word, the VM's name, the kind, the bytes of the metric's name in hexadecimal, and its total
abbrev pub metric_line : List ℕ → MetricTotal → List ℕ
metric_line vm m = codes "metric " ++ (vm ++ (kind_word m.kind ++ (encode_lower m.name ++ (32 ∷ (decimal m.total ++ 10 ∷ [])))))

abbrev pub metric_lines : List ℕ → List MetricTotal → List ℕ
metric_lines vm [] = []
metric_lines vm (m ∷ ms) = metric_line vm m ++ metric_lines vm ms
