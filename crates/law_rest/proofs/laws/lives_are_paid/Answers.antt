use Rattle.law_rest.proofs.Paid.{lives_are_paid}
use Rattle.law_rest.proofs.laws.lives_are_paid.Goals as goal

pub returns : goal.returns
returns g c = lives_are_paid _
