use Rattle.h1_model.proofs.Fronts as laws
use Rattle.h1_model.proofs.pieces_are_a_front.Goals as goal

pub returns : goal.returns
returns c = laws.pieces_are_a_front
