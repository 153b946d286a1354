use Rattle.law_asked.proofs.FilterExamples.{filter_examples}
use Rattle.law_asked.proofs.laws.worked_routes.Goals as goal

pub returns : goal.returns
returns c = filter_examples
