use Rattle.law_turns.proofs.Order.{step_examples}
use Rattle.law_turns.proofs.laws.steps_in_order.Goals as goal

pub returns : goal.returns
returns c = step_examples
