use Rattle.contexts.proofs.Examples.{context_examples}
use Rattle.contexts.proofs.laws.worked_contexts.Goals as goal

pub returns : goal.returns
returns c = context_examples
