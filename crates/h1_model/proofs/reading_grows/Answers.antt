use Rattle.h1_model.proofs.Readings as laws
use Rattle.h1_model.proofs.reading_grows.Goals as goal

pub returns : goal.returns
returns c = laws.reading_grows
