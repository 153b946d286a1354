use Rattle.law_host_calls.proofs.Giving.{giving_examples}
use Rattle.law_host_calls.proofs.laws.worked_giving.Goals as goal

pub returns : goal.returns
returns c = giving_examples
