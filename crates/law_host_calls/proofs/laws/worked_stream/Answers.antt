use Rattle.law_host_calls.proofs.Streams.{stream_examples}
use Rattle.law_host_calls.proofs.laws.worked_stream.Goals as goal

pub returns : goal.returns
returns c = stream_examples
