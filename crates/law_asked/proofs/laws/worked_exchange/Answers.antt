use Rattle.law_asked.proofs.LineExamples.{line_example}
use Rattle.law_asked.proofs.laws.worked_exchange.Goals as goal

pub returns : goal.returns
returns c = line_example
