use Rattle.std.proofs.Common.{◌∙◌}
use Rattle.toml.specs.View.{table_view}
use Rattle.gate_config.specs.Given.{given}
use Rattle.config_reader.specs.declared.section.TableArray.TheVariants.{Vm}
use Rattle.config_reader.proofs.Later.{array_stays}
use Rattle.config_reader.proofs.read.read_arrays.Goals as goal

pub read_filters-requires-clause-plugins : goal.read_filters-requires-clause-plugins
read_filters-requires-clause-plugins c = (array_stays Vm (table_view c.args.table.now) (given c.args.config.now) (given c.read_array.new.config) c.in-Ok.ensures).0 ∙ c.requires.plugins

pub read_filters-requires-clause-routes : goal.read_filters-requires-clause-routes
read_filters-requires-clause-routes c = (array_stays Vm (table_view c.args.table.now) (given c.args.config.now) (given c.read_array.new.config) c.in-Ok.ensures).1 ∙ c.requires.routes
