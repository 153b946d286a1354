use Rattle.std.proofs.Common.{rules}
use Rattle.toml.specs.View.{table_view}
use Rattle.gate_config.specs.Given.{given}
use Rattle.config_reader.proofs.Fits.{plugin_is, plugin_is_new}
use Rattle.config_reader.proofs.entries.add_plugin.Goals as goal

pub plugin_of-requires : goal.plugin_of-requires
plugin_of-requires c = plugin_is (given c.args.config.now) (table_view c.args.table.now) c.requires.good

pub add_plugin-requires-clause-bounds : goal.add_plugin-requires-clause-bounds
add_plugin-requires-clause-bounds c = rw c.in_ok-entry.ensures (plugin_is (given c.args.config.now) (table_view c.args.table.now) c.requires.good)

pub add_plugin-requires-clause-fresh : goal.add_plugin-requires-clause-fresh
add_plugin-requires-clause-fresh c = rw c.in_ok-entry.ensures (plugin_is_new (given c.args.config.now) (table_view c.args.table.now) c.requires.good)
