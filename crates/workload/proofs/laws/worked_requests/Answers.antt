use Rattle.std.proofs.Common.{refl}
use Rattle.std.specs.Fmt.{digits}
use Rattle.workload.proofs.laws.worked_requests.Goals as goal

pub returns : goal.returns
unfolding digits
returns c = record { first = refl; seventh = refl; ninth = refl; longest = refl; again = refl }
