use Rattle.law_exchange.proofs.Lives.{one_request, nothing_else}
use Rattle.law_exchange.proofs.laws.one_request_goes_up.Goals as goal

pub returns : goal.returns
returns c = record { once = one_request; alone = nothing_else }
