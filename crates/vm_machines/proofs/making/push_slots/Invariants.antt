use Rattle.std.proofs.Common.{◌≡◌, ◌++◌, drop}
use Rattle.vm_machines.specs.Making.{slots_from}
use Rattle.vm_machines.proofs.making.push_slots.Given as goal

abbrev pub invariant-loop-i : goal.invariant-loop-i
invariant-loop-i l = l.all.slots ++ slots_from l.i (drop l.i l.vms) ≡ slots_from 0 l.vms
