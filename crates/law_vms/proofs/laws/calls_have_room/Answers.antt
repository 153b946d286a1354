use Rattle.law_vms.proofs.OwnCalls.{calls_have_room}
use Rattle.law_vms.proofs.laws.calls_have_room.Goals as goal

pub returns : goal.returns
returns c = calls_have_room
