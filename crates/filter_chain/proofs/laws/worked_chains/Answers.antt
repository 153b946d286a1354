use Rattle.filter_chain.proofs.Examples.{chain_examples}
use Rattle.filter_chain.proofs.laws.worked_chains.Goals as goal

pub returns : goal.returns
returns c = chain_examples
