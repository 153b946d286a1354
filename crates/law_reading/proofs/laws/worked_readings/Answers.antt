use Rattle.law_reading.proofs.Worked.{reading_examples}
use Rattle.law_reading.proofs.laws.worked_readings.Goals as goal

pub returns : goal.returns
returns g c = reading_examples _ _
