use Rattle.replay_script.proofs.Readings.{one_script}
use Rattle.replay_script.proofs.laws.one_reading.Goals as goal

pub returns : goal.returns
returns c = one_script
