use Rattle.std.proofs.Common.{refl}
use Rattle.workload.proofs.laws.worked_tallies.Goals as goal

pub returns : goal.returns
returns c = record { nothing = refl; some = refl }
