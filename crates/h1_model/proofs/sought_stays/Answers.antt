use Rattle.h1_model.proofs.ChunkLaws as laws
use Rattle.h1_model.proofs.sought_stays.Goals as goal

pub returns : goal.returns
returns c = laws.sought_stays
