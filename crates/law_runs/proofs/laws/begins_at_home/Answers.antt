use Rattle.law_runs.proofs.Homes.{begins_at_home}
use Rattle.law_runs.proofs.laws.begins_at_home.Goals as goal

pub returns : goal.returns
returns c = begins_at_home c.made_vms_are_in_place.ensures
