use Rattle.h1_model.proofs.Parts as laws
use Rattle.h1_model.proofs.refused_stays.Goals as goal

pub returns : goal.returns
returns c = laws.refused_stays
