use Rattle.law_body.proofs.Sparing.{dead_are_asked_nothing, dead_are_spared, death_example}
use Rattle.law_body.proofs.laws.the_dead_are_asked_nothing.Goals as goal

pub returns-clause-spared : goal.returns-clause-spared
returns-clause-spared c = dead_are_spared

pub returns-clause-asked : goal.returns-clause-asked
returns-clause-asked c = dead_are_asked_nothing

pub returns-clause-worked : goal.returns-clause-worked
returns-clause-worked c = death_example
