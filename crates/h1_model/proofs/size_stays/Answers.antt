use Rattle.h1_model.proofs.ChunkLaws as laws
use Rattle.h1_model.proofs.size_stays.Goals as goal

pub returns : goal.returns
returns c = laws.size_stays
