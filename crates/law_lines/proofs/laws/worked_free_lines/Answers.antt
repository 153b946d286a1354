use Rattle.law_lines.proofs.IsolationExamples.{isolation_example}
use Rattle.law_lines.proofs.laws.worked_free_lines.Goals as goal

pub returns : goal.returns
returns c = isolation_example
