use Rattle.law_vms.proofs.MadeVms.{in_place}
use Rattle.law_vms.proofs.laws.made_vms_are_in_place.Goals as goal

pub returns : goal.returns
returns c = in_place
