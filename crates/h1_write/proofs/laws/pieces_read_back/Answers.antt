use Rattle.h1_write.proofs.Back.{pieces_read_back, end_read_back}
use Rattle.h1_write.proofs.laws.pieces_read_back.Goals as goal

pub returns : goal.returns
returns c = record { bytes = pieces_read_back; end = end_read_back }
