use Rattle.law_vms.proofs.OwnEffects.{effects_own}
use Rattle.law_vms.proofs.OwnLines.{on_own_lines}
use Rattle.law_vms.proofs.laws.effects_are_own.Goals as goal

pub returns-clause-asked : goal.returns-clause-asked
returns-clause-asked c = effects_own

pub returns-clause-lines : goal.returns-clause-lines
returns-clause-lines c = on_own_lines
