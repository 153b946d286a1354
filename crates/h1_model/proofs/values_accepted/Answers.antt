use Rattle.h1_model.proofs.Received as laws
use Rattle.h1_model.proofs.values_accepted.Goals as goal

pub returns : goal.returns
returns c = laws.values_accepted
