use Rattle.law_filters.proofs.Examples.{head_examples}
use Rattle.law_filters.proofs.laws.worked_heads.Goals as goal

pub returns : goal.returns
returns c = head_examples
