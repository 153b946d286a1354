use Rattle.std.proofs.Common.{refl}
use Rattle.workload.specs.Events.{given_of}
use Rattle.workload.proofs.laws.worked_sharing.Goals as goal

pub returns : goal.returns
unfolding given_of
returns c = record { first_worker = refl; second_worker = refl; fourth_worker = refl; fifth_worker = refl }
