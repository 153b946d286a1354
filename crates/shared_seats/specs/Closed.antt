-- Stores and metrics whose tables were closed.
use Rattle.std.specs.Prelude.{ℕ, List, replicate, slice_index_or}
use Rattle.store_model.specs.MetricNames.{no_names}
use Rattle.metric_seats.specs.declared.table.MetricsClosed.{MetricsClosed}
use Rattle.shared_store.specs.declared.closed.ClosedStore.{ClosedStore}

pub record ClosedOf : Type 0 where
  pub stores : List ClosedStore
  pub metrics : List MetricsClosed

-- the metrics of a VM's number, none that were ever defined where there is none
abbrev pub metrics_at : List MetricsClosed → ℕ → MetricsClosed
metrics_at metrics vm = slice_index_or metrics vm (record { names = no_names vm; totals = replicate 1024 0; definitions = 0 })
