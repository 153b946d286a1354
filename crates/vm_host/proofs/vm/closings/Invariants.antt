use Rattle.std.proofs.Common.{◌≡◌, map, take}
use Rattle.vm_host.specs.Targets.{closing_of}
use Rattle.vm_host.proofs.vm.closings.Given as goal

abbrev pub invariant-loop-t : goal.invariant-loop-t
invariant-loop-t l = l.closed ≡ map closing_of (take l.t-index l.targets)
