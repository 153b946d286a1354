use Rattle.law_reading.proofs.Limits.{lines_keep_limits}
use Rattle.law_reading.proofs.laws.lines_keep_limits.Goals as goal

pub returns : goal.returns
returns g c = lines_keep_limits _
