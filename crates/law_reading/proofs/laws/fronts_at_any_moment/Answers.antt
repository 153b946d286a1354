use Rattle.law_reading.proofs.Cuts.{fronts_at_any_moment}
use Rattle.law_reading.proofs.laws.fronts_at_any_moment.Goals as goal

pub returns : goal.returns
returns c = fronts_at_any_moment
