use Rattle.metric_lines.proofs.Order.{all_told, told_sorted}
use Rattle.metric_lines.proofs.law.metrics_are_told_in_order.Goals as goal

pub returns-clause-all : goal.returns-clause-all
returns-clause-all c = all_told

pub returns-clause-order : goal.returns-clause-order
returns-clause-order c = told_sorted
