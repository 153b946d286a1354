use Rattle.law_host_calls.proofs.Callouts.{answer_examples}
use Rattle.law_host_calls.proofs.laws.worked_answer.Goals as goal

pub returns : goal.returns
returns c = answer_examples
