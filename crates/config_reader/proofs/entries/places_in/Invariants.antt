use Rattle.std.proofs.Common.{◌≡◌, take, map}
use Rattle.toml.specs.View.{view}
use Rattle.gate_config.specs.Given.{given}
use Rattle.config_reader.specs.Judge.{text_of}
use Rattle.config_names.specs.Names.{plugin_number}
use Rattle.config_reader.proofs.entries.places_in.Given as goal

abbrev pub invariant-loop-item : goal.invariant-loop-item
invariant-loop-item l = l.places ≡ map (λ v. plugin_number (given l.config) (text_of (view v))) (take l.item-index l.items)
