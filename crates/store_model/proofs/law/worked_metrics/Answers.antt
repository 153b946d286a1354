use Rattle.std.proofs.Common.{refl}
use Rattle.store_model.proofs.law.worked_metrics.Goals as goal

pub returns-clause-counter_and_gauge : goal.returns-clause-counter_and_gauge
returns-clause-counter_and_gauge c = refl

pub returns-clause-unknown_ids : goal.returns-clause-unknown_ids
returns-clause-unknown_ids c = refl

pub returns-clause-sixty_four_metrics : goal.returns-clause-sixty_four_metrics
returns-clause-sixty_four_metrics c = (refl, refl)

pub returns-clause-counters_end : goal.returns-clause-counters_end
returns-clause-counters_end c = (refl, refl, refl)

pub returns-clause-gauges_wrap : goal.returns-clause-gauges_wrap
returns-clause-gauges_wrap c = (refl, refl)
