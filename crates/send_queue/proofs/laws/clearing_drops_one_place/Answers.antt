use Rattle.send_queue.proofs.Deliveries.{marks_at-cleared, marks_at-cleared_ended}
use Rattle.send_queue.proofs.laws.clearing_drops_one_place.Goals as goal

pub returns : goal.returns
returns c = record { dropped = marks_at-cleared_ended; kept = marks_at-cleared }
