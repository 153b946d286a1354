use Rattle.law_host_calls.proofs.Metrics.{metric_names}
use Rattle.law_host_calls.proofs.laws.worked_metric_names.Goals as goal

pub returns : goal.returns
returns c = metric_names
