use Rattle.std.proofs.Common.{◌≡◌, ◌++◌, drop}
use Rattle.worker_model.specs.Turn.{ticks_in}
use Rattle.worker.proofs.agenda.push_ticks.Given as goal

abbrev pub invariant-loop-c : goal.invariant-loop-c
invariant-loop-c l = l.jobs ++ ticks_in l.now l.vm (drop l.c-index l.contexts) ≡ l.fn.jobs ++ ticks_in l.now l.vm l.contexts
