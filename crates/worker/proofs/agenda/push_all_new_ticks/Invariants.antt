use Rattle.std.proofs.Common.{◌≡◌, ◌++◌}
use Rattle.worker_model.specs.Turn.{new_ticks_of}
use Rattle.worker.proofs.agenda.push_all_new_ticks.Given as goal

abbrev pub invariant-loop-n : goal.invariant-loop-n
invariant-loop-n l = l.jobs ≡ l.fn.jobs ++ new_ticks_of l.n l.h
