use Rattle.law_down.proofs.Turnwise.{order_examples}
use Rattle.law_down.proofs.laws.what_is_in_order.Goals as goal

pub returns : goal.returns
returns c = order_examples
