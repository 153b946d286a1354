use Rattle.h1_model.proofs.ChunkLaws as laws
use Rattle.h1_model.proofs.one_chunk_step.Goals as goal

pub returns : goal.returns
returns c = laws.one_chunk_step
