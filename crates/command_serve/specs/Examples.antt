-- Worked lines of stores and metrics.
use Rattle.std.specs.Prelude.{◌≡◌, ℕ, List, [], ◌∷◌, ◌++◌, codes, None, replicate}
use Rattle.gate_config.specs.declared.entries.VmEntry.{VmEntry}
use Rattle.metric_seats.specs.declared.table.MetricsClosed.{MetricsClosed}
use Rattle.shared_store.specs.declared.closed.ClosedStore.{ClosedStore}
use Rattle.store_model.specs.MetricNames.{metric_name}
use Rattle.store_model.specs.Queues.{Queue}
use Rattle.store_model.specs.Store.{empty_store}
use Rattle.store_model.specs.declared.metric.MetricKind.TheVariants.{Counter, Gauge}
use Rattle.command_serve.specs.Summary.{summary}

abbrev pub vm_named : List ℕ → VmEntry
vm_named name = record { name = name; «module» = []; configuration = []; fuel = 1; pages = 1; code = None }

abbrev pub queue_of : List (List ℕ) → Queue
queue_of items = record { name = []; who = 1; root = 1; items = items }

-- twelve calls, after which there are two keys, and three items in two queues
abbrev pub called : ClosedStore
called = record {
  store = record {
    keys = record { entries = ([], record { value = []; number = 1 }) ∷ (1 ∷ [], record { value = []; number = 2 }) ∷ []; next = 3 };
    queues = record { vm = 0; queues = queue_of ([] ∷ []) ∷ queue_of ([] ∷ [] ∷ []) ∷ []; owed = [] };
  };
  calls = 12;
}

abbrev pub not_called : ClosedStore
not_called = record { store = empty_store 1; calls = 0 }

-- a counter to which worker 1 added 5 and worker 2 added 7, and a gauge of the same name to which worker 2 put 9
abbrev pub counted_by_two : MetricsClosed
counted_by_two = record {
  names = record { vm = 0; names = metric_name Gauge (codes "n") ∷ metric_name Counter (codes "n") ∷ [] };
  totals = (0 ∷ 5 ∷ replicate 126 0) ++ ((0 ∷ 7 ∷ replicate 62 0) ++ (9 ∷ []));
  definitions = 3;
}

-- a counter to which worker 1 added 1
abbrev pub counted_once : MetricsClosed
counted_once = record { names = record { vm = 1; names = metric_name Counter (codes "k") ∷ [] }; totals = 1 ∷ []; definitions = 1 }

-- A VM whose store was called, and one whose store was not; both have metrics, whose lines come after those of both stores.
abbrev pub two_vms_told : Type 0
two_vms_told =
    summary (vm_named (codes "a") ∷ vm_named (codes "m2") ∷ []) (record { stores = called ∷ not_called ∷ []; metrics = counted_by_two ∷ counted_once ∷ [] })
    ≡ codes "store a calls 12 keys 2 items 3\n" ++ (codes "store m2 calls 0 keys 0 items 0\n" ++ (codes "metric a counter 6e 12\n" ++ (codes "metric a gauge 6e 9\n" ++ codes "metric m2 counter 6b 1\n")))
