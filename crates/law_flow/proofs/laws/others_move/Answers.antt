use Rattle.law_flow.proofs.Elsewhere.{other_direction_moves, other_lines_move}
use Rattle.law_flow.proofs.laws.others_move.Goals as goal

pub returns-clause-lines : goal.returns-clause-lines
returns-clause-lines g c = other_lines_move _

pub returns-clause-direction : goal.returns-clause-direction
returns-clause-direction g c = other_direction_moves _
