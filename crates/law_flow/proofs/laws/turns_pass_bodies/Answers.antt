use Rattle.law_flow.proofs.Turns.{buffers_are_one, turns_go_on, turns_pass}
use Rattle.law_flow.proofs.laws.turns_pass_bodies.Goals as goal

pub returns-clause-turns : goal.returns-clause-turns
returns-clause-turns g c = turns_pass _

pub returns-clause-goes_on : goal.returns-clause-goes_on
returns-clause-goes_on g c = turns_go_on _

pub returns-clause-one : goal.returns-clause-one
returns-clause-one g c = buffers_are_one _
