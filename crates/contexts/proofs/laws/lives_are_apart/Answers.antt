use Rattle.contexts.proofs.Lifetimes.{creates_one, deletes_one, ends_one}
use Rattle.contexts.proofs.laws.lives_are_apart.Goals as goal

pub returns-clause-creates : goal.returns-clause-creates
returns-clause-creates c = creates_one

pub returns-clause-deletes : goal.returns-clause-deletes
returns-clause-deletes c = deletes_one

pub returns-clause-ends : goal.returns-clause-ends
returns-clause-ends c = ends_one
