use Rattle.std.proofs.Common.{◌∙◌, arith}
use Rattle.vm_host.proofs.Finding.{behind_imports}
use Rattle.vm_host.proofs.fitting.type_index.Goals as goal

pub returns : goal.returns
returns c = c.number_at.ensures ∙ behind_imports c.args.imports.now c.args.own.now c.loop-i.i-index c.loop-i.left c.args.x (omega arith) c.loop-i.invariant
