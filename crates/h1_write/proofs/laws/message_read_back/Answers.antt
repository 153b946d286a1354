use Rattle.h1_write.proofs.Whole.{head_read_back, message_read_back, message_is_all}
use Rattle.h1_write.proofs.laws.message_read_back.Goals as goal

pub returns : goal.returns
returns c = record { head = head_read_back; between = message_read_back; alone = message_is_all }
