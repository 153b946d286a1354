use Rattle.law_reading.proofs.Once.{numbers_read_once}
use Rattle.law_reading.proofs.laws.numbers_read_once.Goals as goal

pub returns : goal.returns
returns g c = numbers_read_once _
