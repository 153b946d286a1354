use Rattle.law_flow.proofs.DeadLives.{dead_uncalled, uncalled_example, vms_die}
use Rattle.law_flow.proofs.laws.the_dead_are_called_no_more.Goals as goal

pub returns-clause-uncalled : goal.returns-clause-uncalled
returns-clause-uncalled g c = dead_uncalled _

pub returns-clause-causes : goal.returns-clause-causes
returns-clause-causes g c = vms_die

pub returns-clause-worked : goal.returns-clause-worked
returns-clause-worked g c = uncalled_example
