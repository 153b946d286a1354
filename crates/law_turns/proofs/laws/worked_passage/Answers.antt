use Rattle.law_turns.proofs.Passage.{passage_example}
use Rattle.law_turns.proofs.laws.worked_passage.Goals as goal

pub returns : goal.returns
returns c = passage_example
