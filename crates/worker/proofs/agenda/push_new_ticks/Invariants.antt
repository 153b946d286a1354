use Rattle.std.proofs.Common.{◌≡◌, ◌≤◌, ◌++◌, drop}
use Rattle.worker_model.specs.Turn.{new_ticks_from}
use Rattle.worker.proofs.agenda.push_new_ticks.Given as goal

abbrev pub invariant-loop-p : goal.invariant-loop-p
invariant-loop-p l = (l.jobs ++ new_ticks_from l.vm l.id (drop l.p-index l.plugins) ≡ l.fn.jobs ++ new_ticks_from l.vm l.first l.plugins) × (l.id ≤ 4294967296)
