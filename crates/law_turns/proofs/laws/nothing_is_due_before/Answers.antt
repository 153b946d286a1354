use Rattle.law_turns.proofs.Due.{nothing_is_due_before}
use Rattle.law_turns.proofs.laws.nothing_is_due_before.Goals as goal

pub returns : goal.returns
returns c = nothing_is_due_before
