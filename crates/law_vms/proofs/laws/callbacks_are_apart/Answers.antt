use Rattle.law_vms.proofs.Apart.{apart}
use Rattle.law_vms.proofs.laws.callbacks_are_apart.Goals as goal

pub returns : goal.returns
returns c = apart
