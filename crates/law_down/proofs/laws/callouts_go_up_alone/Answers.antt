use Rattle.law_down.proofs.Turning.{callouts_go_up}
use Rattle.law_down.proofs.laws.callouts_go_up_alone.Goals as goal

pub returns : goal.returns
returns g c = callouts_go_up _
