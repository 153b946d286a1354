use Rattle.law_meaning.proofs.Splitting.{meanings_are_turns}
use Rattle.law_meaning.proofs.laws.meanings_are_turns.Goals as goal

pub returns : goal.returns
returns g c = meanings_are_turns _
