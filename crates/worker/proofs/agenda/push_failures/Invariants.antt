use Rattle.std.proofs.Common.{◌≡◌, ◌++◌, drop}
use Rattle.worker_model.specs.Turn.{fail_jobs}
use Rattle.worker.proofs.agenda.push_failures.Given as goal

abbrev pub invariant-loop-id : goal.invariant-loop-id
invariant-loop-id l = l.jobs ++ fail_jobs (drop l.id-index l.ids) ≡ l.fn.jobs ++ fail_jobs l.ids
