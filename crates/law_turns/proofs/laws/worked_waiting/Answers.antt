use Rattle.law_turns.proofs.Waiting.{waiting_example}
use Rattle.law_turns.proofs.laws.worked_waiting.Goals as goal

pub returns : goal.returns
returns c = waiting_example
