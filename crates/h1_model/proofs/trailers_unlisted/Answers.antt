use Rattle.h1_model.proofs.TrailerLaws as laws
use Rattle.h1_model.proofs.trailers_unlisted.Goals as goal

pub returns : goal.returns
returns c = laws.trailers_unlisted
