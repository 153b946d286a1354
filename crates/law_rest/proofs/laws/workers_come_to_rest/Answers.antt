use Rattle.law_rest.proofs.Sizes.{workers_come_to_rest}
use Rattle.law_rest.proofs.laws.workers_come_to_rest.Goals as goal

pub returns : goal.returns
returns g c = workers_come_to_rest _
