use Rattle.promises.proofs.Repeating.{one_output}
use Rattle.promises.proofs.laws.one_output.Goals as goal

pub returns : goal.returns
returns c = one_output c.one_reading.ensures c.one_replay.ensures
