use Rattle.law_rest.proofs.Turns.{turns_come_to_rest}
use Rattle.law_rest.proofs.laws.turns_come_to_rest.Goals as goal

pub returns : goal.returns
returns g c = turns_come_to_rest _
