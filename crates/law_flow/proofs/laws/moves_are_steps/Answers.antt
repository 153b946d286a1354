use Rattle.law_flow.proofs.Moving.{deaths_end_moves, moves_are, puts_are}
use Rattle.law_flow.proofs.laws.moves_are_steps.Goals as goal

pub returns-clause-moves : goal.returns-clause-moves
returns-clause-moves g c = moves_are _

pub returns-clause-puts : goal.returns-clause-puts
returns-clause-puts g c = puts_are _

pub returns-clause-deaths : goal.returns-clause-deaths
returns-clause-deaths g c = deaths_end_moves _
