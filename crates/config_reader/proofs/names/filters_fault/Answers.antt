use Rattle.std.proofs.Common.{rules, ◌∙◌, sym}
use Rattle.toml.specs.Data.{as_array}
use Rattle.toml.specs.View.{view}
use Rattle.gate_config.specs.Given.{given}
use Rattle.config_reader.proofs.Stepping.{names_are}
use Rattle.config_reader.proofs.names.filters_fault.Goals as goal

pub returns-in-Some : goal.returns-in-Some
returns-in-Some c =
    let e = rw c.in-Some.is at c.as_array.ensures in
    rw c.as_slice.ensures.value at c.names_fault.ensures ∙ sym (names_are (given c.args.config.now) (as_array (view c.args.value.now)) c.in-Some.items.now.items e)
