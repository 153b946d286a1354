use Rattle.std.proofs.Common.{rules}
use Rattle.toml.specs.View.{table_view}
use Rattle.gate_config.specs.Given.{given}
use Rattle.config_reader.proofs.Fits.{vm_is, vm_is_new}
use Rattle.config_reader.proofs.entries.add_vm.Goals as goal

pub vm_of-requires : goal.vm_of-requires
vm_of-requires c = vm_is (given c.args.config.now) (table_view c.args.table.now) c.requires.good

pub add_vm-requires-clause-bounds : goal.add_vm-requires-clause-bounds
add_vm-requires-clause-bounds c = rw c.in_ok-entry.ensures (vm_is (given c.args.config.now) (table_view c.args.table.now) c.requires.good)

pub add_vm-requires-clause-fresh : goal.add_vm-requires-clause-fresh
add_vm-requires-clause-fresh c = rw c.in_ok-entry.ensures (vm_is_new (given c.args.config.now) (table_view c.args.table.now) c.requires.good)
