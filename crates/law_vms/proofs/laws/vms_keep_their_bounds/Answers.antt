use Rattle.law_vms.proofs.Bounds.{keep_their_bounds}
use Rattle.law_vms.proofs.laws.vms_keep_their_bounds.Goals as goal

pub returns : goal.returns
returns c = keep_their_bounds
