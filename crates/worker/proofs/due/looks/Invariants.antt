use Rattle.std.proofs.Common.{◌≡◌}
use Rattle.worker_model.specs.Plan.{plan_of}
use Rattle.worker_model.specs.Wants.{looks}
use Rattle.worker.proofs.due.looks.Given as goal

abbrev pub invariant-loop-n : goal.invariant-loop-n
invariant-loop-n l = l.found ≡ looks (plan_of l.rules) l.room l.n
