use Rattle.store_model.proofs.Metrics.{counter_is_sum}
use Rattle.store_model.proofs.law.counters_are_sums.Goals as goal

pub returns : goal.returns
returns c = counter_is_sum
