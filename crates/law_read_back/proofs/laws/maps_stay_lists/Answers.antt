use Rattle.law_read_back.proofs.Staying.{maps_stay_lists}
use Rattle.law_read_back.proofs.laws.maps_stay_lists.Goals as goal

pub returns : goal.returns
returns g c = maps_stay_lists _
