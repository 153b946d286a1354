use Rattle.exchange.proofs.Answered.{nothing_follows}
use Rattle.exchange.proofs.laws.nothing_follows_an_answer.Goals as goal

pub returns : goal.returns
returns c = nothing_follows
