use Rattle.std.proofs.Common.{◌≡◌, List, ℕ, [], ◌∷◌, ap, sym, subst, ◌∙◌}
use Rattle.gate_config.specs.declared.entries.VmEntry.{VmEntry}
use Rattle.gate_config.specs.Given.{given, with_code}
use Rattle.gate_io.specs.Told.{Gains, GainsFront}
use Rattle.config_files.specs.Loading.{IsBad, IsCode, ReadsRefused}
use Rattle.config_files.proofs.Steps.{code_here, module_is, bad_at}
use Rattle.config_files.proofs.reading.load_vm.Goals as goal

pub returns-in-Ok-clause-held : goal.returns-in-Ok-clause-held
returns-in-Ok-clause-held g c =
    let files = g.F.Files.holds c.args.files.now in
    let vms = c.args.config.now.vms in
    let number : c.in-Some.vm ≡ c.args.place = c.in-Some.ensures.value in
    record {
      code = c.in-Ok.code;
      file = code_here files c.args.place vms c.get.result.now c.in-Ok.code c.requires (subst (λ (v : VmEntry). IsCode files v.«module» v.pages c.in-Ok.code) c.get.ensures c.in-Ok.ensures.code);
      is = c.hold.ensures ∙ ap (λ (n : ℕ). with_code n c.in-Ok.code (given c.args.config.now)) number;
    }

pub returns-in-Ok-clause-one : goal.returns-in-Ok-clause-one
returns-in-Ok-clause-one g c =
    let vms = c.args.config.now.vms in
    let vm = c.get.result.now in
    let same = module_is c.args.place vms vm c.requires ∙ ap (λ (v : VmEntry). v.«module») (sym c.get.ensures) in
    subst (λ (p : List ℕ). Gains (g.F.Files.paths c.args.files.now) (p ∷ []) (g.F.Files.paths c.vm_code.new.files)) (sym same) c.in-Ok.ensures.one

pub returns-in-Err-clause-refused : goal.returns-in-Err-clause-refused
returns-in-Err-clause-refused g c =
    let vms = c.args.config.now.vms in
    bad_at (g.F.Files.holds c.args.files.now) c.args.place vms c.get.result.now c.in-Err.end c.requires (subst (λ (v : VmEntry). IsBad (g.F.Files.holds c.args.files.now) v c.in-Err.end) c.get.ensures c.in-Err.ensures.refused)

pub returns-in-Err-clause-front : goal.returns-in-Err-clause-front
returns-in-Err-clause-front g c =
    let vms = c.args.config.now.vms in
    let vm = c.get.result.now in
    let same = module_is c.args.place vms vm c.requires ∙ ap (λ (v : VmEntry). v.«module») (sym c.get.ensures) in
    subst (λ (p : List ℕ). GainsFront (g.F.Files.paths c.args.files.now) (p ∷ []) (g.F.Files.paths c.vm_code.new.files)) (sym same) c.in-Err.ensures.front

pub returns-in-Err-clause-refused_read : goal.returns-in-Err-clause-refused_read
returns-in-Err-clause-refused_read g c =
    let vms = c.args.config.now.vms in
    let vm = c.get.result.now in
    let same = module_is c.args.place vms vm c.requires ∙ ap (λ (v : VmEntry). v.«module») (sym c.get.ensures) in
    subst (λ (p : List ℕ). ReadsRefused p c.in-Err.end (g.F.Files.paths c.args.files.now) (g.F.Files.paths c.vm_code.new.files)) (sym same) c.in-Err.ensures.refused_read
