use Rattle.std.proofs.Common.{rules}
use Rattle.toml.specs.View.{table_view}
use Rattle.gate_config.specs.Given.{given}
use Rattle.config_reader.proofs.Fits.{route_filters}
use Rattle.config_reader.proofs.entries.add_route.Goals as goal

pub add_route-requires-clause-few : goal.add_route-requires-clause-few
add_route-requires-clause-few c = rw c.in_ok-places.ensures (route_filters (given c.args.config.now) (table_view c.args.table.now) c.requires.good).few

pub add_route-requires-clause-there : goal.add_route-requires-clause-there
add_route-requires-clause-there c = rw c.in_ok-places.ensures (route_filters (given c.args.config.now) (table_view c.args.table.now) c.requires.good).there

pub add_route-requires-clause-differ : goal.add_route-requires-clause-differ
add_route-requires-clause-differ c = rw c.in_ok-places.ensures (route_filters (given c.args.config.now) (table_view c.args.table.now) c.requires.good).differ
