use Rattle.law_read_back.proofs.Worked.{filter_example, refused_readings}
use Rattle.law_read_back.proofs.laws.worked_readings.Goals as goal

pub returns : goal.returns
returns c = record { filter = filter_example; refused = refused_readings }
