use Rattle.workload.proofs.Tallies.{add_up}
use Rattle.workload.proofs.laws.tallies_add_up.Goals as goal

pub returns : goal.returns
returns c = add_up
