use Rattle.local_reply.proofs.Wires.{reply_is_wire}
use Rattle.local_reply.proofs.laws.reply_is_wire.Goals as goal

pub returns : goal.returns
returns c = reply_is_wire
