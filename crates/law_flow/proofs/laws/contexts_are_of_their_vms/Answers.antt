use Rattle.law_flow.proofs.Created.{created_example, filters_tell, of_their_vms}
use Rattle.law_flow.proofs.laws.contexts_are_of_their_vms.Goals as goal

pub returns-clause-made : goal.returns-clause-made
returns-clause-made c = of_their_vms

pub returns-clause-named : goal.returns-clause-named
returns-clause-named c = filters_tell

pub returns-clause-worked : goal.returns-clause-worked
returns-clause-worked c = created_example
