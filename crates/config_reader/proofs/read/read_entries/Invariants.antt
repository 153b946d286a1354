use Rattle.std.proofs.Common.{◌≡◌, drop, map}
use Rattle.toml.specs.View.{view}
use Rattle.gate_config.specs.Given.{given}
use Rattle.config_reader.specs.Whole.{judge_entries, length_of}
use Rattle.config_reader.proofs.read.read_entries.Given as goal

abbrev pub invariant-loop-place : goal.invariant-loop-place
invariant-loop-place l =
    (judge_entries l.section 0 (map view l.items) (given l.fn.config) ≡ judge_entries l.section l.place (map view (drop l.place l.items)) (given l.config))
    × (length_of l.section (given l.config) ≡ l.place)
