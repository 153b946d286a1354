use Rattle.law_host_calls.proofs.Stores.{item_examples}
use Rattle.law_host_calls.proofs.laws.worked_item.Goals as goal

pub returns : goal.returns
returns c = item_examples
