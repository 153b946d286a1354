use Rattle.law_exchange.proofs.Ends.{nothing_follows_end}
use Rattle.law_exchange.proofs.laws.nothing_follows_the_end.Goals as goal

pub returns : goal.returns
returns c = nothing_follows_end
