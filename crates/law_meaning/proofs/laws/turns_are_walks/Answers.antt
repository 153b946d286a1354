use Rattle.law_meaning.proofs.Walking.{turns_are_walks}
use Rattle.law_meaning.proofs.laws.turns_are_walks.Goals as goal

pub returns : goal.returns
returns g c = turns_are_walks _
