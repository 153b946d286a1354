use Rattle.exchange.proofs.Answered.{no_body_down}
use Rattle.exchange.proofs.laws.no_body_goes_down.Goals as goal

pub returns : goal.returns
returns c = no_body_down
