use Rattle.std.proofs.Common.{◌≡◌, List, IfOk, subst}
use Rattle.gate_config.specs.declared.entries.VmEntry.{VmEntry}
use Rattle.vm_machines.specs.Making.{slots_from}
use Rattle.vm_machines.proofs.Counts.{uses_its_own}
use Rattle.vm_machines.proofs.maker.MachinesMakesHostVms.make.Goals as goal

pub returns-clause-needs : goal.returns-clause-needs
returns-clause-needs c =
    uses_its_own c.machines.result c.args.config.now.vms
    (subst (λ (vms : List VmEntry). IfOk c.machines.result (λ all. all.slots ≡ slots_from 0 vms)) c.as_slice.ensures c.machines.ensures)
