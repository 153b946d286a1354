use Rattle.std.proofs.Common.{◌≡◌, ◌++◌}
use Rattle.worker_model.specs.Plan.{plan_of}
use Rattle.worker_model.specs.Turn.{notices_of}
use Rattle.worker.proofs.agenda.push_notices.Given as goal

abbrev pub invariant-loop-n : goal.invariant-loop-n
invariant-loop-n l = l.jobs ≡ l.fn.jobs ++ notices_of (plan_of l.rules) l.n
