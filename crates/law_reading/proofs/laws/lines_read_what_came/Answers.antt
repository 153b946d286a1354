use Rattle.law_reading.proofs.Since.{lines_read}
use Rattle.law_reading.proofs.laws.lines_read_what_came.Goals as goal

pub returns : goal.returns
returns g c = lines_read _
