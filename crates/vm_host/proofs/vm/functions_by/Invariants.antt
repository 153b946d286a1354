use Rattle.std.proofs.Common.{◌≡◌, map, take}
use Rattle.vm_host.specs.Roles.{role_name}
use Rattle.vm_host.specs.Fits.{exported}
use Rattle.vm_host.proofs.vm.functions_by.Given as goal

abbrev pub invariant-loop-r : goal.invariant-loop-r
invariant-loop-r l = l.found ≡ map (λ r. exported (role_name r) l.exports) (take l.r-index l.roles)
