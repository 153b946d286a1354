use Rattle.law_host_calls.proofs.Services.{local_examples}
use Rattle.law_host_calls.proofs.laws.worked_local.Goals as goal

pub returns : goal.returns
returns c = local_examples
