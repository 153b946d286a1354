use Rattle.h1_write.proofs.Back.{trailers_read_back}
use Rattle.h1_write.proofs.Ending.{trailed_end_read_back}
use Rattle.h1_write.proofs.laws.trailers_read_back.Goals as goal

pub returns : goal.returns
returns c = record { bytes = trailers_read_back; end = trailed_end_read_back }
