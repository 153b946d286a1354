use Rattle.law_body.proofs.Examples.{exchange_examples}
use Rattle.law_body.proofs.laws.worked_exchange.Goals as goal

pub returns : goal.returns
returns c = exchange_examples
