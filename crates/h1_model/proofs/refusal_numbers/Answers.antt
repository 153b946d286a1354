use Rattle.h1_model.proofs.Numbers as laws
use Rattle.h1_model.proofs.refusal_numbers.Goals as goal

pub returns : goal.returns
returns c = laws.refusal_numbers
