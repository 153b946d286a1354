use Rattle.law_turns.proofs.Firsts.{late_example}
use Rattle.law_turns.proofs.laws.worked_late_response.Goals as goal

pub returns : goal.returns
returns c = late_example
