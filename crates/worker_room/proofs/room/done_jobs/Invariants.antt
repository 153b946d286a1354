use Rattle.std.proofs.Common.{◌≡◌, ◌++◌, drop}
use Rattle.worker_model.specs.Steps.{done_jobs}
use Rattle.worker_room.proofs.room.done_jobs.Given as goal

abbrev pub invariant-loop-f : goal.invariant-loop-f
invariant-loop-f l = l.jobs ++ done_jobs (drop l.f-index l.filters) ≡ done_jobs l.fn.filters
