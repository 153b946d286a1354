-- What the stores and the metrics came to, as text.
use Rattle.std.specs.Prelude.{ℕ, List, [], ◌∷◌, ◌++◌, length, codes, decimal}
use Rattle.gate_config.specs.declared.entries.VmEntry.{VmEntry}
use Rattle.metric_lines.specs.Lines.{metric_lines}
use Rattle.metric_lines.specs.Totals.{in_order, totals_of_all}
use Rattle.metric_seats.specs.declared.table.MetricsClosed.{MetricsClosed}
use Rattle.shared_seats.specs.Closed.{ClosedOf}
use Rattle.shared_store.specs.declared.closed.ClosedStore.{ClosedStore}
use Rattle.store_model.specs.Queues.{item_count_of}

abbrev pub counts_of : ℕ → ℕ → ℕ → List ℕ
counts_of calls keys items = (codes " calls " ++ decimal calls) ++ ((codes " keys " ++ decimal keys) ++ ((codes " items " ++ decimal items) ++ (10 ∷ [])))

-- `store NAME calls C keys K items I`, and the end of the line: how many calls it had, modulo 2^64, how many keys it has, and how many items in
-- all its queues
abbrev pub store_line : List ℕ → ClosedStore → List ℕ
store_line name closed = (codes "store " ++ name) ++ counts_of closed.calls (length closed.store.keys.entries) (item_count_of closed.store.queues)

-- a line for each VM's store, in the order of the VMs
abbrev pub store_lines : List VmEntry → List ClosedStore → List ℕ
store_lines [] stores = []
store_lines (vm ∷ vms) [] = []
store_lines (vm ∷ vms) (closed ∷ stores) = store_line vm.name closed ++ store_lines vms stores

-- the lines of a VM's metrics: counters first, and those of one kind by the bytes of their names
abbrev pub lines_of : List ℕ → MetricsClosed → List ℕ
lines_of name closed = metric_lines name (in_order (totals_of_all closed))

-- the lines of all metrics, in the order of the VMs
abbrev pub all_metric_lines : List VmEntry → List MetricsClosed → List ℕ
all_metric_lines [] metrics = []
all_metric_lines (vm ∷ vms) [] = []
all_metric_lines (vm ∷ vms) (closed ∷ metrics) = lines_of vm.name closed ++ all_metric_lines vms metrics

-- WHAT IS TOLD: the lines of all stores, and then those of all metrics
abbrev pub summary : List VmEntry → ClosedOf → List ℕ
summary vms closed = store_lines vms closed.stores ++ all_metric_lines vms closed.metrics
