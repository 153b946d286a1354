use Rattle.std.proofs.Common.{◌∙◌}
use Rattle.abi_services.proofs.Named.{vm_is_named}
use Rattle.abi_services.proofs.queues.vm_named.Goals as goal

pub returns : goal.returns
returns c = c.vm_place.ensures ∙ vm_is_named c.args.name.now c.args.vms.now
