use Rattle.std.proofs.Common.{◌≡◌, take}
use Rattle.gate_config.proofs.copies.copy_vms.Given as goal

abbrev pub invariant-loop-vm : goal.invariant-loop-vm
invariant-loop-vm l = l.copy ≡ take l.vm-index l.vm-items
