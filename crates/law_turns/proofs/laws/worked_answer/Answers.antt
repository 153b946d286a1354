use Rattle.law_turns.proofs.Answer.{answer_example}
use Rattle.law_turns.proofs.laws.worked_answer.Goals as goal

pub returns : goal.returns
returns c = answer_example
