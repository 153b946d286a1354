use Rattle.h1_model.proofs.Pieces as laws
use Rattle.h1_model.proofs.cuts_alike.Goals as goal

pub returns : goal.returns
returns c = laws.cuts_alike
