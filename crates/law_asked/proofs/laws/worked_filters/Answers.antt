use Rattle.law_asked.proofs.Examples.{asked_examples}
use Rattle.law_asked.proofs.laws.worked_filters.Goals as goal

pub returns : goal.returns
returns c = asked_examples
