-- The machines that are made of a configuration.
use Rattle.std.specs.Prelude.{List}
use Rattle.gate_config.specs.declared.entries.VmEntry.{VmEntry}
use Rattle.vm_machines.specs.Making.{slots_from}
use Rattle.vm_host.specs.declared.slots.Vms.{Vms}
use Rattle.law_vms.specs.OwnChanges.{ArePlaced}
use Rattle.law_vms.specs.Silent.{AreTied}

abbrev pub made_vms : List VmEntry → Vms
made_vms entries = record { slots = slots_from 0 entries }

-- each stands at the number of its contexts, and what says which callbacks it exports is of its module
pub record MadeVmsAreInPlace : Type 0 where
  pub placed : (entries : List VmEntry) → ArePlaced (made_vms entries)
  pub tied : (entries : List VmEntry) → AreTied (made_vms entries)
