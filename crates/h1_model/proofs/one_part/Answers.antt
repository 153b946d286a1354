use Rattle.h1_model.proofs.Parts as laws
use Rattle.h1_model.proofs.one_part.Goals as goal

pub returns : goal.returns
returns c = laws.one_part
