use Rattle.h1_model.proofs.Received as laws
use Rattle.h1_model.proofs.told_as_received.Goals as goal

pub returns : goal.returns
returns c = laws.told_as_received
