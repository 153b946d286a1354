use Rattle.law_vms.proofs.Examples.{isolation_examples}
use Rattle.law_vms.proofs.laws.worked_isolation.Goals as goal

pub returns : goal.returns
returns c = isolation_examples
