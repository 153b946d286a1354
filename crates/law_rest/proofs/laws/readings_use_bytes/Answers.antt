use Rattle.law_rest.proofs.Readings.{readings_use_bytes}
use Rattle.law_rest.proofs.laws.readings_use_bytes.Goals as goal

pub returns : goal.returns
returns c = readings_use_bytes
