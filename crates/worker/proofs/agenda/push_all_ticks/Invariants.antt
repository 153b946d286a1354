use Rattle.std.proofs.Common.{◌≡◌, ◌++◌}
use Rattle.worker_model.specs.Turn.{ticks_of}
use Rattle.worker.proofs.agenda.push_all_ticks.Given as goal

abbrev pub invariant-loop-n : goal.invariant-loop-n
invariant-loop-n l = l.jobs ≡ l.fn.jobs ++ ticks_of l.now l.n l.h
