use Rattle.law_flow.proofs.RoomExamples.{room_example}
use Rattle.law_flow.proofs.laws.worked_bodies.Goals as goal

pub returns : goal.returns
returns c = room_example
