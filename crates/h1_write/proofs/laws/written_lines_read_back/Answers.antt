use Rattle.h1_write.proofs.Lines.{request_line_read_back, answer_line_read_back, bare_answer_line_read_back}
use Rattle.h1_write.proofs.laws.written_lines_read_back.Goals as goal

pub returns : goal.returns
returns c = record { requests = request_line_read_back; answer = answer_line_read_back; bare = bare_answer_line_read_back }
