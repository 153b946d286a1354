use Rattle.law_flow.proofs.Contexts.{calls_are, contexts_leave}
use Rattle.law_flow.proofs.laws.contexts_of_others.Goals as goal

pub returns-clause-contexts : goal.returns-clause-contexts
returns-clause-contexts g c = contexts_leave

pub returns-clause-calls : goal.returns-clause-calls
returns-clause-calls g c = calls_are _
