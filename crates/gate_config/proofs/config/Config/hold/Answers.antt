use Rattle.std.proofs.Common.{ℕ, List, ap, sym, subst, ◌∙◌, arith}
use Rattle.gate_config.specs.declared.entries.VmEntry.{VmEntry}
use Rattle.gate_config.specs.Given.{given, holding}
use Rattle.gate_config.specs.Kept.{IsKept}
use Rattle.gate_config.proofs.Held.{held_is, kept_held}
use Rattle.gate_config.proofs.config.Config.hold.Goals as goal

pub invariant_of-self : goal.invariant_of-self
invariant_of-self c =
    let self = c.args.self.now in
    let e = held_is c.from.result c.args.code self.vms c.get_mut-entry.result.now (omega (arith, c.from.ensures, c.get.ensures.number, c.requires)) c.get_mut-entry.ensures.value in
    record {
      kept = subst (λ (vms : List VmEntry). IsKept self.workers vms self.plugins self.routes) (sym e) (kept_held self.workers c.from.result c.args.code self.vms self.plugins self.routes self.kept);
      routed = self.routed;
    }

pub returns : goal.returns
returns c =
    let self = c.args.self.now in
    let e = held_is c.from.result c.args.code self.vms c.get_mut-entry.result.now (omega (arith, c.from.ensures, c.get.ensures.number, c.requires)) c.get_mut-entry.ensures.value in
    ap (λ (vms : List VmEntry). record (given self) { vms = vms }) (e ∙ ap (λ (n : ℕ). holding n c.args.code self.vms) (c.from.ensures ∙ c.get.ensures.number))
