use Rattle.law_flow.proofs.Readings.{reading_leaves}
use Rattle.law_flow.proofs.laws.reading_leaves_directions.Goals as goal

pub returns : goal.returns
returns g c = reading_leaves _
