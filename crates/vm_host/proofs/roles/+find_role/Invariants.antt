use Rattle.std.proofs.Common.{length}
use Rattle.vm_host.proofs.roles.+find_role.Given as goal

abbrev pub decreases-find_role : goal.decreases-find_role
decreases-find_role l = length l.roles.now
