use Rattle.law_down.proofs.Turning.{responses_go_down}
use Rattle.law_down.proofs.laws.responses_go_down_one_by_one.Goals as goal

pub returns : goal.returns
returns g c = responses_go_down _
