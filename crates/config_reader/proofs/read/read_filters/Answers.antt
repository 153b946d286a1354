use Rattle.std.proofs.Common.{ap, length, ◌∙◌}
use Rattle.toml.specs.View.{table_view}
use Rattle.gate_config.specs.Given.{given}
use Rattle.config_reader.specs.declared.section.TableArray.TheVariants.{Plugin}
use Rattle.config_reader.proofs.Later.{array_stays}
use Rattle.config_reader.proofs.read.read_filters.Goals as goal

pub read_array-requires-in-Ok : goal.read_array-requires-in-Ok
read_array-requires-in-Ok c = ap length (array_stays Plugin (table_view c.args.table.now) (given c.args.config.now) (given c.read_array.new.config) c.in-Ok.ensures ∙ c.requires.routes)
