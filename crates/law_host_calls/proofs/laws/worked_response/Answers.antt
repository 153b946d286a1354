use Rattle.law_host_calls.proofs.Streams.{response_examples}
use Rattle.law_host_calls.proofs.laws.worked_response.Goals as goal

pub returns : goal.returns
returns c = response_examples
