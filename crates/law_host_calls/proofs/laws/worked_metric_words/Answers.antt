use Rattle.law_host_calls.proofs.Metrics.{metric_words}
use Rattle.law_host_calls.proofs.laws.worked_metric_words.Goals as goal

pub returns : goal.returns
returns c = metric_words
