use Rattle.std.proofs.Common.{◌∙◌, sym, is_some}
use Rattle.toml.specs.Data.{Data, as_table}
use Rattle.toml.specs.View.{view}
use Rattle.config_reader.proofs.Mapped.{all_map}
use Rattle.config_reader.proofs.read.are_tables.Goals as goal

pub returns : goal.returns
returns c = c.each_is_table.ensures ∙ sym (all_map (λ (d : Data). is_some (as_table d)) view c.args.items.now)
