use Rattle.law_host_calls.proofs.Services.{context_examples}
use Rattle.law_host_calls.proofs.laws.worked_context.Goals as goal

pub returns : goal.returns
returns c = context_examples
