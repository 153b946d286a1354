use Rattle.std.proofs.Common.{◌≡◌, ◌++◌}
use Rattle.worker_model.specs.Steps.{create_jobs}
use Rattle.worker_room.proofs.hearing.push_creates.Given as goal

abbrev pub invariant-loop-at : goal.invariant-loop-at
invariant-loop-at l = l.jobs ≡ l.fn.jobs ++ create_jobs l.line l.at
