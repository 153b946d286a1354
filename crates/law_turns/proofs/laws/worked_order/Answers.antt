use Rattle.law_turns.proofs.Parts.{parts_example}
use Rattle.law_turns.proofs.laws.worked_order.Goals as goal

pub returns : goal.returns
returns c = parts_example
