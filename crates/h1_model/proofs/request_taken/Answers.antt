use Rattle.h1_model.proofs.Taken as laws
use Rattle.h1_model.proofs.request_taken.Goals as goal

pub returns : goal.returns
returns c = laws.request_taken
