use Rattle.std.proofs.Common.{rules, sym, ◌∙◌}
use Rattle.toml.specs.View.{view}
use Rattle.gate_config.specs.Given.{given}
use Rattle.toml.specs.Data.{as_str}
use Rattle.config_names.specs.Names.{has_plugin}
use Rattle.config_reader.proofs.Named.{refused_name, taken_name, no_name}
use Rattle.config_reader.proofs.checks.new_plugin_fault.Goals as goal

pub returns-then-has_plugin : goal.returns-then-has_plugin
returns-then-has_plugin c = refused_name 8 (has_plugin (given c.args.config.now)) (as_str (view c.args.value.now)) c.in-Some.s.now (rw c.in-Some.is at c.name_in.ensures) (sym c.has_plugin.ensures ∙ c.if-has_plugin.true)

pub returns-else-has_plugin : goal.returns-else-has_plugin
returns-else-has_plugin c = taken_name 8 (has_plugin (given c.args.config.now)) (as_str (view c.args.value.now)) c.in-Some.s.now (rw c.in-Some.is at c.name_in.ensures) (sym c.has_plugin.ensures ∙ c.if-has_plugin.false)

pub returns-in-None : goal.returns-in-None
returns-in-None c = no_name 8 (has_plugin (given c.args.config.now)) (as_str (view c.args.value.now)) (rw c.in-None.is at c.name_in.ensures)
