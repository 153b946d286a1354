use Rattle.law_turns.proofs.Rules.{target_examples}
use Rattle.law_turns.proofs.laws.worked_targets.Goals as goal

pub returns : goal.returns
returns c = target_examples
