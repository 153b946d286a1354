use Rattle.vm_host.proofs.Linked.{are_targets, are_closings}
use Rattle.vm_host.proofs.RoleTies.{fits_linked}
use Rattle.vm_host.proofs.laws.imports_have_targets.Goals as goal

pub returns-clause-targets : goal.returns-clause-targets
returns-clause-targets c = λ m pages none. are_targets m pages (fits_linked m pages none)

pub returns-clause-closings : goal.returns-clause-closings
returns-clause-closings c = λ m pages none. are_closings m pages (fits_linked m pages none)
