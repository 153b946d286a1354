use Rattle.header_maps.proofs.Found.{replaced_in_place as law}
use Rattle.header_maps.proofs.laws.replaced_in_place.Goals as goal

pub returns : goal.returns
returns c = law
