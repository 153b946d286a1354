use Rattle.std.proofs.Common.{◌≡◌, drop}
use Rattle.vm_host.specs.Fits.{exported}
use Rattle.vm_host.proofs.fitting.exported.Given as goal

abbrev pub invariant-loop-e : goal.invariant-loop-e
invariant-loop-e l = exported l.name (drop l.e-index l.exports) ≡ exported l.name l.exports
