use Rattle.law_bodies.proofs.Living.{lives_examples}
use Rattle.law_bodies.proofs.laws.worked_responses.Goals as goal

pub returns : goal.returns
returns c = lives_examples
