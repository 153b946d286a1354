use Rattle.law_meaning.proofs.Worked.{examples}
use Rattle.law_meaning.proofs.laws.worked_turns.Goals as goal

pub returns : goal.returns
returns g c = examples _
