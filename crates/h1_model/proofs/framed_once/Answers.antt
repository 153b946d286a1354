use Rattle.h1_model.proofs.Framed as laws
use Rattle.h1_model.proofs.framed_once.Goals as goal

pub returns : goal.returns
returns c = laws.framed_once
