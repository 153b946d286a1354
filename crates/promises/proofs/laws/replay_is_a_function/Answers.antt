use Rattle.promises.proofs.Repeating.{replay_is_a_function}
use Rattle.promises.proofs.laws.replay_is_a_function.Goals as goal

pub returns : goal.returns
returns g c = replay_is_a_function c.one_reading.ensures c.one_replay.ensures _ _
