use Rattle.law_down.proofs.Counting.{end_examples}
use Rattle.law_down.proofs.laws.how_connections_end.Goals as goal

pub returns : goal.returns
returns c = end_examples
