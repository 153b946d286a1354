use Rattle.std.proofs.Common.{rules}
use Rattle.toml.specs.Data.{as_array}
use Rattle.toml.specs.View.{view}
use Rattle.gate_config.specs.Given.{given}
use Rattle.config_reader.proofs.Stepping.{ends_as, names_judged}
use Rattle.config_reader.proofs.read.read_streams.Goals as goal

pub returns : goal.returns
returns c =
    let e = rw c.in-Some.is at c.as_array.ensures in
    ends_as _ _ _ _ (names_judged (given c.args.config.now) (as_array (view c.args.value.now)) c.in-Some.items.now.items e)
    (rw c.as_slice.ensures.value at c.read_names.ensures)
