use Rattle.law_body_turns.proofs.Shouting.{shouting_example}
use Rattle.law_body_turns.proofs.laws.worked_turns.Goals as goal

pub returns : goal.returns
returns c = shouting_example
