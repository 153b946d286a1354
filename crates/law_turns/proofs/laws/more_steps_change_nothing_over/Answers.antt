use Rattle.law_turns.proofs.General.{more_change_nothing}
use Rattle.law_turns.proofs.laws.more_steps_change_nothing_over.Goals as goal

pub returns : goal.returns
returns g c = more_change_nothing _
