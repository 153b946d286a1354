use Rattle.std.proofs.Common.{◌≡◌, ◌<◌, ◌≤◌, List, ℕ, suc, [], ◌∷◌, length, refl, ap, sym, subst, ◌∙◌, arith, add-one}
use Rattle.std.proofs.lemmas.List.{take_all}
use Rattle.gate_config.specs.declared.entries.VmEntry.{VmEntry}
use Rattle.gate_config.specs.Given.{Given, given}
use Rattle.gate_io.specs.Told.{Gains, GainsFront, gains_nothing}
use Rattle.config_files.specs.Loading.{Told, Holding, HoldsAt, IsBadAt, ReadsRefused, modules_of}
use Rattle.config_files.proofs.Steps.{all_held, bad_in, code_next, filters_there, module_same, modules_there, one_more, others_same, read_all, read_more, read_some, same_length, stops_in}
use Rattle.config_files.proofs.reading.load_modules.Goals as goal

pub loop-place-init : goal.loop-place-init
loop-place-init g c = (refl, refl, gains_nothing (g.F.Files.paths c.args.files.now), refl, omega arith)

pub load_vm-requires : goal.load_vm-requires
load_vm-requires g c =
    let held = c.loop-place.invariant.0 in
    omega (arith, same_length (g.F.Files.holds c.args.files.now) c.loop-place.place c.args.config.now.vms c.loop-place.config.vms held, c.len-place-end.ensures, c.loop-place-test.true)

pub loop-place-preserved : goal.loop-place-preserved
loop-place-preserved g c =
    let files = g.F.Files.holds c.args.files.now in
    let n = c.loop-place.place in
    let old = c.args.config.now.vms in
    let now = c.loop-place.config in
    let inv = c.loop-place.invariant in
    let low : n < length old = omega (arith, c.len-place-end.ensures, c.loop-place-test.true) in
    let here = subst (λ (t : Told). HoldsAt t n (given now) (given c.load_vm.new.config)) inv.3 c.in-Ok.ensures.held in
    let more = one_more files n old now.vms here.code inv.0 low (code_next files n old now.vms here.code inv.0 here.file) in
    let one = subst (λ (p : List ℕ). Gains (g.F.Files.paths c.loop-place.files) (p ∷ []) (g.F.Files.paths c.load_vm.new.files)) (module_same files n old now.vms inv.0) c.in-Ok.ensures.one in
    let vms = ap (λ (x : Given). x.vms) here.is in (
      rw add-one (subst (λ (l : List VmEntry). Holding files (suc n) old l) (sym vms) more),
      others_same (given c.args.config.now) (given now) (given c.load_vm.new.config) _ here.is inv.1,
      rw add-one (read_more n old (g.F.Files.paths c.args.files.now) (g.F.Files.paths c.loop-place.files) (g.F.Files.paths c.load_vm.new.files) low inv.2 one),
      c.load_vm.ensures.holds ∙ inv.3,
      omega (arith, inv.4, c.load_vm.ensures.faults),
    )

pub returns-clause-holding : goal.returns-clause-holding
returns-clause-holding g c =
    let old = c.args.config.now.vms in
    let all : c.loop-place.place ≡ length old = omega (arith, c.len-place-end.ensures, c.loop-place-test.false) in
    record {
      vms = all_held (g.F.Files.holds c.args.files.now) old c.loop-place.config.vms (subst (λ (n : ℕ). Holding (g.F.Files.holds c.args.files.now) n old c.loop-place.config.vms) all c.loop-place.invariant.0);
      others = c.loop-place.invariant.1;
    }

pub returns-clause-modules : goal.returns-clause-modules
returns-clause-modules g c =
    let files = g.F.Files.holds c.args.files.now in
    let old = c.args.config.now.vms in
    let all : c.loop-place.place ≡ length old = omega (arith, c.len-place-end.ensures, c.loop-place-test.false) in
    modules_there files old c.loop-place.config.vms (all_held files old c.loop-place.config.vms (subst (λ (n : ℕ). Holding files n old c.loop-place.config.vms) all c.loop-place.invariant.0))

pub returns-clause-filters : goal.returns-clause-filters
returns-clause-filters g c =
    let files = g.F.Files.holds c.args.files.now in
    let old = c.args.config.now.vms in
    let all : c.loop-place.place ≡ length old = omega (arith, c.len-place-end.ensures, c.loop-place-test.false) in
    filters_there files old c.loop-place.config.vms (all_held files old c.loop-place.config.vms (subst (λ (n : ℕ). Holding files n old c.loop-place.config.vms) all c.loop-place.invariant.0)) c.loop-place.config.kept.all_vms

pub returns-clause-all_read : goal.returns-clause-all_read
returns-clause-all_read g c =
    let old = c.args.config.now.vms in
    let past : length old ≤ c.loop-place.place = omega (arith, c.len-place-end.ensures, c.loop-place-test.false) in
    subst (λ (l : List VmEntry). Gains (g.F.Files.paths c.args.files.now) (modules_of l) (g.F.Files.paths c.loop-place.files)) (take_all c.loop-place.place old past) c.loop-place.invariant.2

pub returns-in-Err-clause-refused : goal.returns-in-Err-clause-refused
returns-in-Err-clause-refused g c =
    let inv = c.loop-place.invariant in
    let now = c.loop-place.config.vms in
    bad_in (g.F.Files.holds c.args.files.now) c.loop-place.place c.args.config.now.vms now c.in-Err.end inv.0 (subst (λ (t : Told). IsBadAt t c.loop-place.place now c.in-Err.end) inv.3 c.in-Err.ensures.refused)

pub returns-clause-paths : goal.returns-clause-paths
returns-clause-paths g c =
    let files = g.F.Files.holds c.args.files.now in
    let old = c.args.config.now.vms in
    let now = c.loop-place.config.vms in
    let all : c.loop-place.place ≡ length old = omega (arith, c.len-place-end.ensures, c.loop-place-test.false) in
    let past : length old ≤ c.loop-place.place = omega (arith, all) in
    let reads = subst (λ (l : List VmEntry). Gains (g.F.Files.paths c.args.files.now) (modules_of l) (g.F.Files.paths c.loop-place.files)) (take_all c.loop-place.place old past) c.loop-place.invariant.2 in
    read_all files old now (g.F.Files.paths c.args.files.now) (g.F.Files.paths c.loop-place.files) (all_held files old now (subst (λ (n : ℕ). Holding files n old now) all c.loop-place.invariant.0)) reads

pub returns-in-Err-clause-paths : goal.returns-in-Err-clause-paths
returns-in-Err-clause-paths g c =
    let files = g.F.Files.holds c.args.files.now in
    let n = c.loop-place.place in
    let old = c.args.config.now.vms in
    let now = c.loop-place.config.vms in
    let inv = c.loop-place.invariant in
    let low : n < length old = omega (arith, c.len-place-end.ensures, c.loop-place-test.true) in
    let front = subst (λ (p : List ℕ). GainsFront (g.F.Files.paths c.loop-place.files) (p ∷ []) (g.F.Files.paths c.load_vm.new.files)) (module_same files n old now inv.0) c.in-Err.ensures.front in
    read_some files n old now (g.F.Files.paths c.args.files.now) (g.F.Files.paths c.loop-place.files) (g.F.Files.paths c.load_vm.new.files) low inv.0 inv.2 front

pub returns-in-Err-clause-stopped : goal.returns-in-Err-clause-stopped
returns-in-Err-clause-stopped g c =
    let files = g.F.Files.holds c.args.files.now in
    let n = c.loop-place.place in
    let old = c.args.config.now.vms in
    let now = c.loop-place.config.vms in
    let inv = c.loop-place.invariant in
    let low : n < length old = omega (arith, c.len-place-end.ensures, c.loop-place-test.true) in
    let bad = subst (λ (t : Told). IsBadAt t n now c.in-Err.end) inv.3 c.in-Err.ensures.refused in
    let last = subst (λ (p : List ℕ). ReadsRefused p c.in-Err.end (g.F.Files.paths c.loop-place.files) (g.F.Files.paths c.load_vm.new.files)) (module_same files n old now inv.0) c.in-Err.ensures.refused_read in
    stops_in files n old now c.in-Err.end (g.F.Files.paths c.args.files.now) (g.F.Files.paths c.loop-place.files) (g.F.Files.paths c.load_vm.new.files) low inv.0 bad inv.2 last
