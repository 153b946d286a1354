use Rattle.law_runs.proofs.Gone.{gone_end_next, gone_examples}
use Rattle.law_runs.proofs.laws.gone_end_next.Goals as goal

pub returns-clause-next : goal.returns-clause-next
returns-clause-next g c = gone_end_next

pub returns-clause-worked : goal.returns-clause-worked
returns-clause-worked g c = gone_examples
