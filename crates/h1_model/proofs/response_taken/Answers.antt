use Rattle.h1_model.proofs.Taken as laws
use Rattle.h1_model.proofs.response_taken.Goals as goal

pub returns : goal.returns
returns c = laws.response_taken
