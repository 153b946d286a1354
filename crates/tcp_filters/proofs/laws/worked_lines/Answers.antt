use Rattle.tcp_filters.proofs.Examples.{line_examples, limit_examples}
use Rattle.tcp_filters.proofs.laws.worked_lines.Goals as goal

pub returns-clause-lines : goal.returns-clause-lines
returns-clause-lines c = line_examples

pub returns-clause-limits : goal.returns-clause-limits
returns-clause-limits c = limit_examples
