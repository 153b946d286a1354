use Rattle.h1_write.proofs.Heads.{response_head_read_back, interim_read_back, response_read_back, bare_response_read_back}
use Rattle.h1_write.proofs.laws.responses_read_back.Goals as goal

pub returns : goal.returns
returns c = record { head = response_head_read_back; interim = interim_read_back; whole = response_read_back; bare = bare_response_read_back }
