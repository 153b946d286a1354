use Rattle.send_queue.proofs.Joins.{AreFilled-joined}
use Rattle.send_queue.proofs.Offers.{marks_at-solid, solid_same}
use Rattle.send_queue.proofs.laws.empty_pieces_are_nothing.Goals as goal

pub returns : goal.returns
returns c = record { marks = marks_at-solid; same = solid_same; joined = AreFilled-joined }
