use Rattle.std.proofs.Common.{ℕ, List, ap, ◌∙◌}
use Rattle.gate_config.specs.declared.entries.VmEntry.{VmEntry}
use Rattle.gate_config.specs.Given.{given}
use Rattle.config_files.specs.Plain.{naming}
use Rattle.config_files.proofs.Over.{named_is}
use Rattle.config_files.proofs.plain.name_module.Goals as goal

pub returns : goal.returns
returns c =
    let config = c.args.config.now in
    let named = named_is c.args.place c.in_ok-path.path config.vms c.get_mut-vm.result.now c.requires c.get_mut-vm.ensures.value in
    ap (λ (vms : List VmEntry). record (given config) { vms = vms }) (named ∙ ap (λ (p : List ℕ). naming c.args.place p config.vms) c.in_ok-path.ensures)
