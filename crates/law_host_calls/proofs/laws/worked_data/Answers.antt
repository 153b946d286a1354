use Rattle.law_host_calls.proofs.Stores.{data_examples}
use Rattle.law_host_calls.proofs.laws.worked_data.Goals as goal

pub returns : goal.returns
returns c = data_examples
