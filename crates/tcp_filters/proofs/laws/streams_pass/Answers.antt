use Rattle.tcp_filters.proofs.Streams.{streams_pass}
use Rattle.tcp_filters.proofs.laws.streams_pass.Goals as goal

pub returns : goal.returns
returns c = streams_pass
