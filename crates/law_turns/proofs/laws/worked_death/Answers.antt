use Rattle.law_turns.proofs.Death.{death_example}
use Rattle.law_turns.proofs.laws.worked_death.Goals as goal

pub returns : goal.returns
returns c = death_example
