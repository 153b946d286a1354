use Rattle.std.proofs.Common.{◌∙◌, sym}
use Rattle.toml.specs.Data.{Data}
use Rattle.toml.specs.View.{view}
use Rattle.gate_config.specs.Given.{given}
use Rattle.config_reader.specs.Judge.{text_of}
use Rattle.config_names.specs.Names.{has_plugin}
use Rattle.config_reader.proofs.Mapped.{all_map}
use Rattle.config_reader.proofs.names.are_plugins.Goals as goal

pub returns : goal.returns
returns c = c.each_is_a_plugin.ensures ∙ sym (all_map (λ (d : Data). has_plugin (given c.args.config.now) (text_of d)) view c.args.items.now)
