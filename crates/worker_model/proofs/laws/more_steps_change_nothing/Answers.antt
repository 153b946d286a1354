use Rattle.worker_model.proofs.TurnLaws as laws
use Rattle.worker_model.proofs.laws.more_steps_change_nothing.Goals as goal

pub returns : goal.returns
returns c = laws.more_change_nothing
