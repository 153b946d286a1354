use Rattle.law_turns.proofs.General.{turns_are_functions}
use Rattle.law_turns.proofs.laws.turn_is_function_over.Goals as goal

pub returns : goal.returns
returns g c = turns_are_functions _
