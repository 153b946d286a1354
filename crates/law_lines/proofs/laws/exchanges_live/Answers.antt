use Rattle.law_lines.proofs.Turning.{exchanges_live}
use Rattle.law_lines.proofs.laws.exchanges_live.Goals as goal

pub returns : goal.returns
returns g c = exchanges_live _
