use Rattle.std.proofs.Common.{rules, ◌∙◌, sym, map}
use Rattle.std.proofs.lemmas.Result.{IfOk-weaker}
use Rattle.toml.specs.Data.{as_array}
use Rattle.toml.specs.View.{view}
use Rattle.gate_config.specs.Given.{given}
use Rattle.config_reader.proofs.Stepping.{places_are}
use Rattle.config_reader.proofs.entries.places_of.Goals as goal

pub returns-in-Some : goal.returns-in-Some
returns-in-Some c =
    let e = rw c.in-Some.is at c.as_array.ensures in
    let same = places_are (given c.args.config.now) (as_array (view c.args.value.now)) c.in-Some.items.now.items e in
    IfOk-weaker c.places_in.result _ _ (λ places h. h ∙ sym same) (rw c.as_slice.ensures.value at c.places_in.ensures)
