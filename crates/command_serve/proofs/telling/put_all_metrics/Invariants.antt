use Rattle.std.proofs.Common.{◌≡◌, ◌++◌, drop}
use Rattle.command_serve.specs.Summary.{all_metric_lines}
use Rattle.command_serve.proofs.telling.put_all_metrics.Given as goal

abbrev pub invariant-vms : goal.invariant-vms
invariant-vms l = l.text ++ all_metric_lines (drop l.n l.fn.vms) (drop l.n l.fn.closed.metrics) ≡ l.fn.text ++ all_metric_lines l.fn.vms l.fn.closed.metrics
