use Rattle.law_rest.proofs.Sizes.{whole_turns_come_to_rest}
use Rattle.law_rest.proofs.laws.whole_turns_come_to_rest.Goals as goal

pub returns : goal.returns
returns g c = whole_turns_come_to_rest _ _
