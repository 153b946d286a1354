use Rattle.law_turns.proofs.Downloads.{pipeline_example}
use Rattle.law_turns.proofs.laws.worked_pipeline.Goals as goal

pub returns : goal.returns
returns c = pipeline_example
