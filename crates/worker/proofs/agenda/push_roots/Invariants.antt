use Rattle.std.proofs.Common.{◌≡◌, ◌++◌, drop}
use Rattle.std.specs.Prelude.{true}
use Rattle.worker_model.specs.Turn.{roots_from}
use Rattle.worker.proofs.agenda.push_roots.Given as goal

abbrev pub invariant-loop-plugin : goal.invariant-loop-plugin
invariant-loop-plugin l = l.jobs ++ roots_from l.vm l.plugin l.first (drop l.plugin l.plugins) ≡ l.fn.jobs ++ roots_from l.vm 0 true l.plugins
