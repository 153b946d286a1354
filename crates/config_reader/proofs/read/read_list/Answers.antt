use Rattle.std.proofs.Common.{rules}
use Rattle.toml.specs.Data.{as_array}
use Rattle.toml.specs.View.{view}
use Rattle.gate_config.specs.Given.{given}
use Rattle.config_reader.proofs.Stepping.{ends_as, list_is}
use Rattle.config_reader.proofs.read.read_list.Goals as goal

pub returns : goal.returns
returns c =
    let e = rw c.in-Some.is at c.as_array.ensures in
    ends_as _ _ _ _ (list_is c.args.section (given c.args.config.now) (as_array (view c.args.value.now)) c.in-Some.items.now.items e)
    (rw c.as_slice.ensures.value at c.read_items.ensures)
