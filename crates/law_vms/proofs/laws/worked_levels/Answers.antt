use Rattle.law_vms.proofs.Levels.{level_examples}
use Rattle.law_vms.proofs.laws.worked_levels.Goals as goal

pub returns : goal.returns
returns c = level_examples
