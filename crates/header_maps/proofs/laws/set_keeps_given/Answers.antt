use Rattle.header_maps.proofs.Whole.{set_keeps_given as law}
use Rattle.header_maps.proofs.laws.set_keeps_given.Goals as goal

pub returns : goal.returns
returns c = law
