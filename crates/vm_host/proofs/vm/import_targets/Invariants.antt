use Rattle.std.proofs.Common.{◌≡◌, map, take}
use Rattle.vm_host.specs.Targets.{import_target}
use Rattle.vm_host.proofs.vm.import_targets.Given as goal

abbrev pub invariant-loop-i : goal.invariant-loop-i
invariant-loop-i l = l.targets ≡ map import_target (take l.i-index l.imports)
