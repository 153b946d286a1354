use Rattle.h1_model.proofs.Pieces as laws
use Rattle.h1_model.proofs.pieces_are_whole.Goals as goal

pub returns : goal.returns
returns c = laws.pieces_are_whole
