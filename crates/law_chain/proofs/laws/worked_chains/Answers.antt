use Rattle.law_chain.proofs.Examples.{pass_through_examples}
use Rattle.law_chain.proofs.laws.worked_chains.Goals as goal

pub returns : goal.returns
returns c = pass_through_examples
