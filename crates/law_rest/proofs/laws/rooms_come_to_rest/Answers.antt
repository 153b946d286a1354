use Rattle.law_rest.proofs.Turns.{rooms_come_to_rest}
use Rattle.law_rest.proofs.laws.rooms_come_to_rest.Goals as goal

pub returns : goal.returns
returns g c = rooms_come_to_rest _
