use Rattle.law_turns.proofs.Ended.{nothing_held}
use Rattle.law_turns.proofs.laws.nothing_is_held_behind_an_end.Goals as goal

pub returns : goal.returns
returns c = nothing_held
