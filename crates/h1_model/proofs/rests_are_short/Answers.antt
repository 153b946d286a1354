use Rattle.h1_model.proofs.Rests as laws
use Rattle.h1_model.proofs.rests_are_short.Goals as goal

pub returns : goal.returns
returns c = laws.rests_are_short
