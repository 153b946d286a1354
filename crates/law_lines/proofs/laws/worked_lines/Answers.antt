use Rattle.law_lines.proofs.Worked.{line_examples}
use Rattle.law_lines.proofs.laws.worked_lines.Goals as goal

pub returns : goal.returns
returns c = line_examples
