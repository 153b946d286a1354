use Rattle.h1_model.proofs.ChunkLaws as laws
use Rattle.h1_model.proofs.last_step_stays.Goals as goal

pub returns : goal.returns
returns c = laws.last_step_stays
