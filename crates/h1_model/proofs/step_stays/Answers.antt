use Rattle.h1_model.proofs.Readings as laws
use Rattle.h1_model.proofs.step_stays.Goals as goal

pub returns : goal.returns
returns c = laws.step_stays
