use Rattle.h1_model.proofs.ResponseReceived as laws
use Rattle.h1_model.proofs.response_as_received.Goals as goal

pub returns : goal.returns
returns c = laws.response_as_received
