use Rattle.header_maps.proofs.Found.{added_is_found as law}
use Rattle.header_maps.proofs.laws.added_is_found.Goals as goal

pub returns : goal.returns
returns c = law
