use Rattle.h1_model.proofs.Listing as laws
use Rattle.h1_model.proofs.response_listed.Goals as goal

pub returns : goal.returns
returns c = laws.response_listed
