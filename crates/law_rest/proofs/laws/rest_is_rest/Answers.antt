use Rattle.law_rest.proofs.Settling.{rest_is_rest}
use Rattle.law_rest.proofs.laws.rest_is_rest.Goals as goal

pub returns : goal.returns
returns c = rest_is_rest
