use Rattle.std.proofs.Common.{◌≡◌, drop}
use Rattle.worker_model.specs.Making.{with_plugins}
use Rattle.worker.proofs.making_worker.add_plugins.Given as goal

abbrev pub invariant-loop-p : goal.invariant-loop-p
invariant-loop-p l = with_plugins l.h (drop l.p-index l.plugins) ≡ with_plugins l.fn.h l.plugins
