use Rattle.law_flow.proofs.Besides.{other_direction, other_lines, quiet_steps}
use Rattle.law_flow.proofs.laws.directions_are_left.Goals as goal

pub returns-clause-lines : goal.returns-clause-lines
returns-clause-lines c = other_lines

pub returns-clause-direction : goal.returns-clause-direction
returns-clause-direction c = other_direction

pub returns-clause-steps : goal.returns-clause-steps
returns-clause-steps c = quiet_steps
