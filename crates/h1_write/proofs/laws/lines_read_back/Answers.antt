use Rattle.h1_write.proofs.Whole.{requests_read_back, answer_read_back}
use Rattle.h1_write.proofs.laws.lines_read_back.Goals as goal

pub returns : goal.returns
returns c = record { requests = requests_read_back; answer = answer_read_back }
