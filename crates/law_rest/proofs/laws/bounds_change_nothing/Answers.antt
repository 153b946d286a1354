use Rattle.law_rest.proofs.Turns.{bounds_change_nothing}
use Rattle.law_rest.proofs.laws.bounds_change_nothing.Goals as goal

pub returns : goal.returns
returns g c = bounds_change_nothing _
