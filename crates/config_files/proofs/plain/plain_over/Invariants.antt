use Rattle.std.proofs.Common.{◌≡◌, map, string_bytes}
use Rattle.gate_config.specs.Given.{given}
use Rattle.config_files.specs.Plain.{plain_over, vms_over}
use Rattle.config_files.proofs.Over.{so_far}
use Rattle.config_files.proofs.plain.plain_over.Given as goal

abbrev pub invariant-loop-place : goal.invariant-loop-place
invariant-loop-place l =
    given l.config ≡ record (plain_over (map string_bytes l.paths)) { vms = vms_over 0 (so_far l.place (map string_bytes l.paths)) }
