use Rattle.header_maps.proofs.Found.{judged_alike as law}
use Rattle.header_maps.proofs.laws.judged_alike.Goals as goal

pub returns : goal.returns
returns c = law
