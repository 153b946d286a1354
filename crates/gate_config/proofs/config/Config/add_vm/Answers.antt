use Rattle.gate_config.proofs.OneMore.{pushed_vm}
use Rattle.gate_config.proofs.config.Config.add_vm.Goals as goal

pub invariant_of-self : goal.invariant_of-self
invariant_of-self c = record {
  kept = pushed_vm c.push.result c.args.self.now.workers c.args.self.now.vms c.push.new.self c.args.self.now.plugins c.args.self.now.routes c.args.entry c.push.ensures.ok c.push.ensures.err c.args.self.now.kept c.requires.count c.requires.bounds c.requires.fresh;
  routed = c.args.self.now.routed;
}
