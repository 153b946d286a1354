use Rattle.h1_write.proofs.Round.{body_read_back}
use Rattle.h1_write.proofs.Whole.{body_is_all, readings_join}
use Rattle.h1_write.proofs.laws.body_read_back.Goals as goal

pub returns : goal.returns
returns c = record { between = body_read_back; alone = body_is_all; joined = readings_join }
