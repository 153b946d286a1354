use Rattle.worker_model.specs.Rooms.{has_move}
use Rattle.worker_lines.proofs.Firsts.{Fails}
use Rattle.worker_lines.proofs.lines.Lines.moving.Given as goal

-- it is none of those that were looked at
abbrev pub invariant-loop-at : goal.invariant-loop-at
invariant-loop-at l = Fails has_move l.self l.at
