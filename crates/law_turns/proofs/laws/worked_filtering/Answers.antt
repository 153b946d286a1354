use Rattle.law_turns.proofs.Rules.{filtering_examples}
use Rattle.law_turns.proofs.laws.worked_filtering.Goals as goal

pub returns : goal.returns
returns c = filtering_examples
