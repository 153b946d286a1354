use Rattle.law_filters.proofs.Coming.{heads_come_to_wait}
use Rattle.law_filters.proofs.Entering.{stages_await}
use Rattle.law_filters.proofs.Waiting.{heads_wait}
use Rattle.law_filters.proofs.laws.heads_wait.Goals as goal

pub returns-clause-made : goal.returns-clause-made
returns-clause-made c = stages_await

pub returns-clause-stays : goal.returns-clause-stays
returns-clause-stays c = heads_wait

pub returns-clause-begun : goal.returns-clause-begun
returns-clause-begun c = heads_come_to_wait
