use Rattle.law_host_calls.proofs.Stores.{queue_examples}
use Rattle.law_host_calls.proofs.laws.worked_queue.Goals as goal

pub returns : goal.returns
returns c = queue_examples
