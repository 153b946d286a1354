use Rattle.std.proofs.Common.{◌∙◌, sym}
use Rattle.toml.specs.View.{view}
use Rattle.config_reader.specs.Judge.{is_a_name}
use Rattle.config_reader.proofs.Mapped.{all_map}
use Rattle.config_reader.proofs.names.are_names.Goals as goal

pub returns : goal.returns
returns c = c.each_is_a_name.ensures ∙ sym (all_map is_a_name view c.args.items.now)
