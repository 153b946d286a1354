use Rattle.worker_model.specs.Rooms.{is_over}
use Rattle.worker_lines.proofs.Firsts.{Fails}
use Rattle.worker_lines.proofs.lines.Lines.ending.Given as goal

-- it is none of those that were looked at
abbrev pub invariant-loop-at : goal.invariant-loop-at
invariant-loop-at l = Fails is_over l.self l.at
