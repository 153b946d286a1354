use Rattle.law_read_back.proofs.Readings.{requests_are_read}
use Rattle.law_read_back.proofs.laws.requests_are_read_as_one.Goals as goal

pub returns : goal.returns
returns g c = requests_are_read _
