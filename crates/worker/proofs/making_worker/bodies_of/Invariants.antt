use Rattle.std.proofs.Common.{◌≡◌, ◌++◌, drop}
use Rattle.worker_model.specs.Making.{bodies_of}
use Rattle.worker.proofs.making_worker.bodies_of.Given as goal

abbrev pub invariant-loop-p : goal.invariant-loop-p
invariant-loop-p g l =
    l.bodies ++ bodies_of g.H.Host.exported g.H.Host.registering l.host (drop l.p-index l.plugins) ≡ bodies_of g.H.Host.exported g.H.Host.registering l.host l.plugins
