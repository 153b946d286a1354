use Rattle.law_flow.proofs.TurnExamples.{turn_example}
use Rattle.law_flow.proofs.laws.worked_turns.Goals as goal

pub returns : goal.returns
returns c = turn_example
