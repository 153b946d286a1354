use Rattle.h1_model.proofs.Readings as laws
use Rattle.h1_model.proofs.one_reading.Goals as goal

pub returns : goal.returns
returns c = laws.one_reading
