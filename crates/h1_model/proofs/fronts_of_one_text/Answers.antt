use Rattle.h1_model.proofs.Fronts as laws
use Rattle.h1_model.proofs.fronts_of_one_text.Goals as goal

pub returns : goal.returns
returns c = laws.fronts_of_one_text
