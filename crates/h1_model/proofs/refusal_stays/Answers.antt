use Rattle.h1_model.proofs.Readings as laws
use Rattle.h1_model.proofs.refusal_stays.Goals as goal

pub returns : goal.returns
returns c = laws.refusal_stays
