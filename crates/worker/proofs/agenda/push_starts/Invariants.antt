use Rattle.std.proofs.Common.{◌≡◌, ◌++◌}
use Rattle.worker_model.specs.Turn.{starts_of}
use Rattle.worker.proofs.agenda.push_starts.Given as goal

abbrev pub invariant-loop-n : goal.invariant-loop-n
invariant-loop-n l = l.jobs ≡ l.fn.jobs ++ starts_of l.n l.plugins
