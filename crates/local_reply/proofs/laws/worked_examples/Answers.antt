use Rattle.local_reply.proofs.Examples.{moment_examples, reply_examples}
use Rattle.local_reply.proofs.laws.worked_examples.Goals as goal

pub returns : goal.returns
returns c = record { moments = moment_examples; replies = reply_examples }
