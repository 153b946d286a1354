use Rattle.law_bodies.proofs.Stepwise.{filters_in_order}
use Rattle.law_bodies.proofs.laws.filters_stand_in_order.Goals as goal

pub returns : goal.returns
returns c = filters_in_order
