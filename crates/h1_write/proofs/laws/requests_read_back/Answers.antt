use Rattle.h1_write.proofs.Requests.{request_head_read_back, request_read_back}
use Rattle.h1_write.proofs.laws.requests_read_back.Goals as goal

pub returns : goal.returns
returns c = record { head = request_head_read_back; whole = request_read_back }
