use Rattle.std.proofs.Common.{ℕ, List, map, string_bytes, ap, subst, ◌∙◌}
use Rattle.gate_config.specs.declared.entries.VmEntry.{VmEntry}
use Rattle.gate_config.specs.Given.{Given}
use Rattle.gate_io.specs.Told.{Gains}
use Rattle.config_files.specs.Loading.{StopsIn, modules_of}
use Rattle.config_files.proofs.Over.{modules_over, none_read, plain_read}
use Rattle.config_files.proofs.plain.load_plain.Goals as goal

pub returns-in-Ok-load_modules-clause-all_read : goal.returns-in-Ok-load_modules-clause-all_read
returns-in-Ok-load_modules-clause-all_read g c =
    let same = ap (λ (said : Given). modules_of said.vms) c.in-Ok.ensures ∙ modules_over 0 (map string_bytes c.args.paths.now) in
    subst (λ (l : List (List ℕ)). Gains (g.F.Files.paths c.args.files.now) l (g.F.Files.paths c.load_modules.new.files)) same c.in-Ok-load_modules.ensures.all_read

pub returns-in-Ok-load_modules-clause-paths : goal.returns-in-Ok-load_modules-clause-paths
returns-in-Ok-load_modules-clause-paths g c =
    plain_read (g.F.Files.holds c.args.files.now) (map string_bytes c.args.paths.now) c.in-Ok.config.vms (g.F.Files.paths c.args.files.now) (g.F.Files.paths c.load_modules.new.files) (ap (λ (said : Given). said.vms) c.in-Ok.ensures) c.load_modules.ensures.paths

pub returns-in-Err-clause-paths : goal.returns-in-Err-clause-paths
returns-in-Err-clause-paths g c =
    plain_read (g.F.Files.holds c.args.files.now) (map string_bytes c.args.paths.now) c.in-Ok.config.vms (g.F.Files.paths c.args.files.now) (g.F.Files.paths c.load_modules.new.files) (ap (λ (said : Given). said.vms) c.in-Ok.ensures) c.load_modules.ensures.paths

pub returns-in-Err-clause-stopped : goal.returns-in-Err-clause-stopped
returns-in-Err-clause-stopped g c =
    let same = ap (λ (said : Given). said.vms) c.in-Ok.ensures in
    subst (λ (vms : List VmEntry). StopsIn (g.F.Files.holds c.args.files.now) vms c.in-Err.end (g.F.Files.paths c.args.files.now) (g.F.Files.paths c.load_modules.new.files)) same c.in-Err.ensures.stopped

pub returns-in_default-clause-paths : goal.returns-in_default-clause-paths
returns-in_default-clause-paths g c = none_read (g.F.Files.holds c.args.files.now) (map string_bytes c.args.paths.now) (g.F.Files.paths c.args.files.now)
