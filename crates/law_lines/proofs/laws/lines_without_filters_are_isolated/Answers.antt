use Rattle.law_lines.proofs.Isolation.{others_leave}
use Rattle.law_lines.proofs.OtherTurns.{turns_leave}
use Rattle.law_lines.proofs.OwnSteps.{own_steps}
use Rattle.law_lines.proofs.laws.lines_without_filters_are_isolated.Goals as goal

pub returns-clause-others : goal.returns-clause-others
returns-clause-others g c = others_leave _

pub returns-clause-own : goal.returns-clause-own
returns-clause-own g c = own_steps _

pub returns-clause-turns : goal.returns-clause-turns
returns-clause-turns g c = turns_leave _
