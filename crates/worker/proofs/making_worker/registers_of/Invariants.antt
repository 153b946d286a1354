use Rattle.std.proofs.Common.{◌≡◌}
use Rattle.worker_model.specs.Making.{registers_of}
use Rattle.worker.proofs.making_worker.registers_of.Given as goal

abbrev pub invariant-loop-n : goal.invariant-loop-n
invariant-loop-n g l = l.registers ≡ registers_of g.H.Host.exported g.H.Host.registering l.plugins l.host l.n
