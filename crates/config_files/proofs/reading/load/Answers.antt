use Rattle.std.proofs.Common.{List, ℕ, [], ◌∷◌, sym, subst}
use Rattle.gate_config.specs.Given.{given}
use Rattle.gate_io.specs.Told.{Gains, gains_more}
use Rattle.config_files.specs.Loading.{Told, HoldsAll, IsBadIn, ReadsModules, StopsIn, modules_of}
use Rattle.config_files.proofs.Steps.{first_read, modules_held, no_config_loaded, not_loaded, then_read, then_stops}
use Rattle.config_files.proofs.reading.load.Goals as goal

pub returns-in-Err-clause-refused : goal.returns-in-Err-clause-refused
returns-in-Err-clause-refused g c = no_config_loaded (g.F.Files.holds c.args.files.now) c.args.path.now c.in-Err.end c.in-Err.ensures.refused

pub returns-in-Err-clause-paths : goal.returns-in-Err-clause-paths
returns-in-Err-clause-paths g c = first_read (g.F.Files.holds c.args.files.now) c.args.path.now (g.F.Files.paths c.args.files.now) (g.F.Files.paths c.read_text.new.files) c.in-Err.ensures.front

pub returns-in-Ok-load_modules-clause-loaded : goal.returns-in-Ok-load_modules-clause-loaded
returns-in-Ok-load_modules-clause-loaded g c = record {
  said = given c.in-Ok.config;
  read = c.in-Ok.ensures.read;
  holds = subst (λ (t : Told). HoldsAll t (given c.in-Ok.config) (given c.load_modules.new.config)) c.read_text.ensures.holds c.in-Ok-load_modules.ensures.holding;
}

pub returns-in-Ok-load_modules-clause-all_read : goal.returns-in-Ok-load_modules-clause-all_read
returns-in-Ok-load_modules-clause-all_read g c =
    let whole = gains_more (g.F.Files.paths c.args.files.now) (c.args.path.now ∷ []) (g.F.Files.paths c.read_text.new.files) (modules_of c.in-Ok.config.vms) (g.F.Files.paths c.load_modules.new.files) c.in-Ok.ensures.one c.in-Ok-load_modules.ensures.all_read in
    let same = modules_held (g.F.Files.holds c.read_text.new.files) c.in-Ok.config.vms c.load_modules.new.config.vms c.in-Ok-load_modules.ensures.holding.vms in
    subst (λ (l : List (List ℕ)). Gains (g.F.Files.paths c.args.files.now) (c.args.path.now ∷ l) (g.F.Files.paths c.load_modules.new.files)) (sym same) whole

pub returns-in-Ok-load_modules-clause-paths : goal.returns-in-Ok-load_modules-clause-paths
returns-in-Ok-load_modules-clause-paths g c =
    let mid = g.F.Files.paths c.read_text.new.files in
    let new = g.F.Files.paths c.load_modules.new.files in
    let reads = subst (λ (t : Told). ReadsModules t c.in-Ok.config.vms mid new) c.read_text.ensures.holds c.load_modules.ensures.paths in
    then_read (g.F.Files.holds c.args.files.now) c.args.path.now (given c.in-Ok.config) (g.F.Files.paths c.args.files.now) mid new c.in-Ok.ensures.read c.in-Ok.ensures.one reads

pub returns-in-Err-load_modules-clause-refused : goal.returns-in-Err-load_modules-clause-refused
returns-in-Err-load_modules-clause-refused g c =
    not_loaded (g.F.Files.holds c.args.files.now) c.args.path.now (given c.in-Ok.config) c.in-Err-load_modules.end c.in-Ok.ensures.read
    (subst (λ (t : Told). IsBadIn t c.in-Ok.config.vms c.in-Err-load_modules.end) c.read_text.ensures.holds c.in-Err-load_modules.ensures.refused)

pub returns-in-Err-load_modules-clause-paths : goal.returns-in-Err-load_modules-clause-paths
returns-in-Err-load_modules-clause-paths g c =
    let mid = g.F.Files.paths c.read_text.new.files in
    let new = g.F.Files.paths c.load_modules.new.files in
    let reads = subst (λ (t : Told). ReadsModules t c.in-Ok.config.vms mid new) c.read_text.ensures.holds c.load_modules.ensures.paths in
    then_read (g.F.Files.holds c.args.files.now) c.args.path.now (given c.in-Ok.config) (g.F.Files.paths c.args.files.now) mid new c.in-Ok.ensures.read c.in-Ok.ensures.one reads

pub returns-in-Err-load_modules-clause-stopped : goal.returns-in-Err-load_modules-clause-stopped
returns-in-Err-load_modules-clause-stopped g c =
    let mid = g.F.Files.paths c.read_text.new.files in
    let new = g.F.Files.paths c.load_modules.new.files in
    let stops = subst (λ (t : Told). StopsIn t c.in-Ok.config.vms c.in-Err-load_modules.end mid new) c.read_text.ensures.holds c.in-Err-load_modules.ensures.stopped in
    then_stops (g.F.Files.holds c.args.files.now) c.args.path.now (given c.in-Ok.config) c.in-Err-load_modules.end (g.F.Files.paths c.args.files.now) mid new c.in-Ok.ensures.read c.in-Ok.ensures.one stops
