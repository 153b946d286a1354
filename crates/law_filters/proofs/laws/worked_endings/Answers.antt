use Rattle.law_filters.proofs.Shutting.{ended_examples}
use Rattle.law_filters.proofs.laws.worked_endings.Goals as goal

pub returns : goal.returns
returns c = ended_examples
