use Rattle.worker_model.proofs.TurnLaws as laws
use Rattle.worker_model.proofs.laws.turns_are_functions.Goals as goal

pub returns : goal.returns
returns c = laws.turns_are_functions
