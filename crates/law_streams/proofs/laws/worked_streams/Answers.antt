use Rattle.law_streams.proofs.Streams.{stream_examples, stream_wants}
use Rattle.law_streams.proofs.laws.worked_streams.Goals as goal

pub returns-clause-turns : goal.returns-clause-turns
returns-clause-turns c = stream_examples

pub returns-clause-wants : goal.returns-clause-wants
returns-clause-wants c = stream_wants
