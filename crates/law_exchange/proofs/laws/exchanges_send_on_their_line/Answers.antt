use Rattle.law_exchange.proofs.Own.{own_line}
use Rattle.law_exchange.proofs.laws.exchanges_send_on_their_line.Goals as goal

pub returns : goal.returns
returns c = own_line
