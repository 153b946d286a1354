use Rattle.h1_model.proofs.ChunkLaws as laws
use Rattle.h1_model.proofs.runs_join.Goals as goal

pub returns : goal.returns
returns c = laws.runs_join
