use Rattle.h1_model.proofs.FrontExamples as laws
use Rattle.h1_model.proofs.front_examples.Goals as goal

pub returns : goal.returns
returns c = laws.front_examples
