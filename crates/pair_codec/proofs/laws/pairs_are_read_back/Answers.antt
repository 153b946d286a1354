use Rattle.pair_codec.proofs.RoundTrip.{read_back, written_so, size_is_length}
use Rattle.pair_codec.proofs.laws.pairs_are_read_back.Goals as goal

pub returns-clause-read_back : goal.returns-clause-read_back
returns-clause-read_back c = read_back

pub returns-clause-written_so : goal.returns-clause-written_so
returns-clause-written_so c = written_so

pub returns-clause-size : goal.returns-clause-size
returns-clause-size c = size_is_length
