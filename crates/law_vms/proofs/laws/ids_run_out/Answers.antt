use Rattle.law_vms.proofs.LastIds.{run_out, last_examples}
use Rattle.law_vms.proofs.laws.ids_run_out.Goals as goal

pub returns-clause-ids : goal.returns-clause-ids
returns-clause-ids c = run_out

pub returns-clause-worked : goal.returns-clause-worked
returns-clause-worked c = last_examples
