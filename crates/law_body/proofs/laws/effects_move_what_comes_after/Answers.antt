use Rattle.law_body.proofs.Moved.{effects_move_on}
use Rattle.law_body.proofs.laws.effects_move_what_comes_after.Goals as goal

pub returns : goal.returns
returns c = effects_move_on
