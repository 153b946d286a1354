use Rattle.std.proofs.Common.{◌≡◌}
use Rattle.gate_config.specs.Plain.{first_n, plain_vm}
use Rattle.gate_config.proofs.plain.plain_vm_list.Given as goal

abbrev pub invariant-loop-k : goal.invariant-loop-k
invariant-loop-k l = l.vms ≡ first_n plain_vm l.k
