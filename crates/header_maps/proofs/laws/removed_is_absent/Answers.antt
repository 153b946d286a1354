use Rattle.header_maps.proofs.Found.{removed_is_absent as law}
use Rattle.header_maps.proofs.laws.removed_is_absent.Goals as goal

pub returns : goal.returns
returns c = law
