use Rattle.law_exchange.proofs.Responses.{one_response}
use Rattle.law_exchange.proofs.laws.one_response_goes_down.Goals as goal

pub returns : goal.returns
returns c = one_response
