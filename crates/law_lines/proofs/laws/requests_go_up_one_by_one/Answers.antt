use Rattle.law_lines.proofs.Turning.{all_go_up_one_by_one}
use Rattle.law_lines.proofs.laws.requests_go_up_one_by_one.Goals as goal

pub returns : goal.returns
returns g c = all_go_up_one_by_one _
