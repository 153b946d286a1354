use Rattle.law_read_back.proofs.First.{heads_end_where_written}
use Rattle.law_read_back.proofs.laws.heads_end_where_written.Goals as goal

pub returns : goal.returns
returns c = heads_end_where_written
