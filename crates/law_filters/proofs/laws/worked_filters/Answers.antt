use Rattle.law_filters.proofs.EveryExamples.{every_examples}
use Rattle.law_filters.proofs.laws.worked_filters.Goals as goal

pub returns : goal.returns
returns c = every_examples
