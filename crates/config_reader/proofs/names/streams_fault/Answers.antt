use Rattle.std.proofs.Common.{rules, ◌∙◌, sym}
use Rattle.toml.specs.Data.{as_array}
use Rattle.toml.specs.View.{view}
use Rattle.config_reader.proofs.Stepping.{streams_are}
use Rattle.config_reader.proofs.names.streams_fault.Goals as goal

pub returns-in-Some : goal.returns-in-Some
returns-in-Some c =
    let e = rw c.in-Some.is at c.as_array.ensures in
    rw c.as_slice.ensures.value at c.streams_form.ensures ∙ sym (streams_are (as_array (view c.args.value.now)) c.in-Some.items.now.items e)
