use Rattle.std.proofs.Common.{◌≡◌, drop, map}
use Rattle.toml.specs.View.{table_view}
use Rattle.gate_config.specs.Given.{given}
use Rattle.config_reader.specs.Rows.{row_of}
use Rattle.config_reader.specs.Judge.{first_fault}
use Rattle.config_reader.proofs.checks.first_fault.Given as goal

abbrev pub invariant-loop-key : goal.invariant-loop-key
invariant-loop-key l = first_fault (map row_of l.keys) (given l.config) (table_view l.table) ≡ first_fault (map row_of (drop l.key-index l.keys)) (given l.config) (table_view l.table)
