use Rattle.std.proofs.Common.{◌≡◌, drop}
use Rattle.worker_model.specs.Wants.{with_ticks}
use Rattle.worker.proofs.due.with_ticks.Given as goal

abbrev pub invariant-loop-c : goal.invariant-loop-c
invariant-loop-c l = with_ticks l.first (drop l.c-index l.contexts) ≡ with_ticks l.fn.due l.contexts
