use Rattle.law_asked.proofs.Lines.{turns_ask}
use Rattle.law_asked.proofs.laws.turns_ask.Goals as goal

pub returns : goal.returns
returns g c = turns_ask
