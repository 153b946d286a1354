use Rattle.law_callouts.proofs.OneFate.{fate_once}
use Rattle.law_callouts.proofs.laws.callouts_have_one_fate_at_most.Goals as goal

pub returns : goal.returns
returns c = fate_once
