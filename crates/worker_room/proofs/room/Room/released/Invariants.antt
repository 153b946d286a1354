use Rattle.worker_model.specs.Rooms.{is_released}
use Rattle.worker_lines.proofs.Firsts.{Fails}
use Rattle.worker_room.proofs.room.Room.released.Given as goal

-- those that were looked at wait still
abbrev pub invariant-loop-at : goal.invariant-loop-at
invariant-loop-at l = Fails (is_released l.self) l.waits l.at
