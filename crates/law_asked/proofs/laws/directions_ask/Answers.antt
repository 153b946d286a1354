use Rattle.law_asked.proofs.Lines.{directions_ask, requests_go_up}
use Rattle.law_asked.proofs.laws.directions_ask.Goals as goal

pub returns-clause-asked : goal.returns-clause-asked
returns-clause-asked c = directions_ask

pub returns-clause-up : goal.returns-clause-up
returns-clause-up c = requests_go_up
