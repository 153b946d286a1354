use Rattle.law_callouts.proofs.GoingOut.{callouts_go_out}
use Rattle.law_callouts.proofs.laws.callouts_go_out_once.Goals as goal

pub returns : goal.returns
returns g c = callouts_go_out _
