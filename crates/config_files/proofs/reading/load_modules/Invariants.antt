use Rattle.std.proofs.Common.{◌≡◌, ◌≤◌, take}
use Rattle.gate_config.specs.Given.{given}
use Rattle.gate_io.specs.Told.{Gains}
use Rattle.config_files.specs.Loading.{Holding, modules_of}
use Rattle.config_files.proofs.reading.load_modules.Given as goal

abbrev pub invariant-loop-place : goal.invariant-loop-place
invariant-loop-place g l =
    Holding (g.F.Files.holds l.fn.files) l.place l.fn.config.vms l.config.vms
    × (given l.config ≡ record (given l.fn.config) { vms = l.config.vms })
    × Gains (g.F.Files.paths l.fn.files) (modules_of (take l.place l.fn.config.vms)) (g.F.Files.paths l.files)
    × (g.F.Files.holds l.files ≡ g.F.Files.holds l.fn.files)
    × (g.F.Files.faults l.fn.files ≤ g.F.Files.faults l.files)
