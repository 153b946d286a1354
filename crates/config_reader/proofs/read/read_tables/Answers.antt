use Rattle.toml.specs.View.{table_view}
use Rattle.gate_config.specs.Given.{given}
use Rattle.config_reader.proofs.Later.{no_entries}
use Rattle.config_reader.proofs.read.read_tables.Goals as goal

pub read_after_gateway-requires-clause-vms : goal.read_after_gateway-requires-clause-vms
read_after_gateway-requires-clause-vms c = (no_entries (table_view c.args.table.now) (given c.in-Ok.config) c.in-Ok.ensures).vms

pub read_after_gateway-requires-clause-plugins : goal.read_after_gateway-requires-clause-plugins
read_after_gateway-requires-clause-plugins c = (no_entries (table_view c.args.table.now) (given c.in-Ok.config) c.in-Ok.ensures).plugins

pub read_after_gateway-requires-clause-routes : goal.read_after_gateway-requires-clause-routes
read_after_gateway-requires-clause-routes c = (no_entries (table_view c.args.table.now) (given c.in-Ok.config) c.in-Ok.ensures).routes
