use Rattle.std.proofs.Common.{◌≡◌}
use Rattle.worker_model.specs.Wants.{ticks_up_to}
use Rattle.worker.proofs.due.ticks_up_to.Given as goal

abbrev pub invariant-loop-n : goal.invariant-loop-n
invariant-loop-n l = l.first ≡ ticks_up_to l.room l.n
