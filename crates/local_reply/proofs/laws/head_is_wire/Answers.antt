use Rattle.local_reply.proofs.Wires.{head_is_wire}
use Rattle.local_reply.proofs.laws.head_is_wire.Goals as goal

pub returns : goal.returns
returns c = head_is_wire
